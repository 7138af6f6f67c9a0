-- Every world that steps reach from an opening world is safe.
use Rattle.std.proofs.Common.{◌≡◌, ◌∙◌, ◌==◌, ℕ, true, if◌then◌else◌, is_some, List, [], ◌∷◌, map, slice_get, Option, Some, None, IfSome, IsSomeAnd, refl, sym, ap, subst}
use Rattle.std.specs.Option.{option_map}
use Rattle.exch_lane.specs.Laws.{LaneIsACell}
use Rattle.fw_package.specs.Package.{PackageText}
use Rattle.ua_core.specs.Session.{TimedOf}
use Rattle.fw_message.specs.Headline.{EntryOf, IsSafeAndTied, IsTied}
use Rattle.fw_message.specs.Pairs.{PairOf}
use Rattle.fw_message.specs.WorldLaws.{history_of}
use Rattle.fw_message.specs.WorldLaws.{IsSafeMessageWorld as AreSafeMessages, WorldsAreSafe as MessagesAreSafe}
use Rattle.fw_message.specs.Worlds.{NodeOf, node_at}
use Rattle.fw_message.proofs.Showing.{IsSafeNode, pairs_show, pairs_shown}
use Rattle.fw_node.specs.Agents.{half_for}
use Rattle.fw_node.specs.Halves.{HalfOf}
use Rattle.fw_message.specs.Laws.{shown_pair}
use Rattle.fw_steps.specs.Opening.{AreDifferent, IsOpeningWorld}
use Rattle.fw_steps.specs.Promises.{IsSafeWorld, PacketsAreSafe}
use Rattle.fw_steps.specs.Steps.{Run}
use Rattle.fw_steps.specs.LinksAreMessages.{LinksAreMessages}
use Rattle.fw_steps.specs.LinksAreLanes.{LinksAreLanes}
use Rattle.fw_steps.specs.Links.{LinkOf}
use Rattle.fw_steps.specs.Worlds.{SiteOf, WorldOf, pair_for, pair_with, site_for}
use Rattle.fw_steps.specs.declared.step.Step.{Step}
use Rattle.fw_steps.proofs.LinksAreMessages.Each.{eid_of}
use Rattle.fw_steps.proofs.LinksAreMessages.BothHalves.{pair_at}
use Rattle.fw_steps.proofs.LinksAreMessages.Stands.{Stands}
use Rattle.fw_steps.proofs.LinksAreMessages.Worlds.{opening_node, reached_safe}
use Rattle.fw_steps.proofs.LinksAreLanes.Firsts.{first_of}
use Rattle.fw_steps.proofs.LinksAreLanes.Keys.{eids_of}
use Rattle.fw_steps.proofs.LinksAreLanes.Linked.{link_there, linked_site, site_stood}
use Rattle.fw_steps.proofs.LinksAreLanes.Listed.{first_by_place, link_by_place, links_of, map_get}
use Rattle.fw_steps.proofs.LinksAreLanes.Projection.{link_at, link_from}
use Rattle.fw_steps.proofs.PacketsAreSafe.SafeOpening.{opening_eids, opening_messages, opening_stands}
use Rattle.fw_steps.proofs.PacketsAreSafe.SafeStands.{Stand, known_links, messages_of, pair_there}
use Rattle.fw_steps.proofs.PacketsAreSafe.SafeSteps.{stand_on}

-- ALONG A RUN

pub stand_along : LaneIsACell → LinksAreLanes → LinksAreMessages → (opening w v : WorldOf) (ss : List Step) → Stand opening w → Run w ss v → Stand opening v
stand_along law lanes messages opening w v [] k e = subst (Stand opening) (sym e) k
stand_along law lanes messages opening w v (s ∷ ss) k run = stand_along law lanes messages opening run.0 v ss (stand_on law lanes messages opening w run.0 s k run.1) run.2

-- A DEVICE'S PAIR

-- a link's pair, for any cells
abbrev pub pair_of : LinkOf → PairOf
pair_of l = pair_at l None None

pub pair_linked : (since : ℕ) (o : Option (HalfOf TimedOf)) (s : Option SiteOf) → pair_with o s ≡ option_map pair_of (link_from since o s)
pair_linked since None s = refl
pair_linked since (Some h) None = refl
pair_linked since (Some h) (Some x) = refl

node_first : (ns : List NodeOf) (eid : ℕ) → node_at ns eid ≡ first_of eid_of ns eid
node_first [] eid = refl
node_first (n ∷ ns) eid = ap (λ o. if n.eid == eid then Some n else o) (node_first ns eid)

node_placed : (ns : List NodeOf) (i eid : ℕ) (n : NodeOf) → AreDifferent (map eid_of ns) → slice_get (map eid_of ns) i ≡ Some eid → slice_get ns i ≡ Some n → node_at ns eid ≡ Some n
node_placed ns i eid n apart e is = node_first ns eid ∙ sym (first_by_place eid_of ns i eid apart e) ∙ is

-- its history is that of its pair over whole messages
safe_as : (packages : List PackageText) (now : ℕ) (first last : LinkOf) (n : NodeOf) (b es fs : List EntryOf) → Stands packages now last n.pair → fs ≡ es
    → (ps : List PackageText) → IsSafeNode ps b (opening_node first) es n → IsSafeAndTied ps (shown_pair (pair_of first) []) (shown_pair (pair_of last) fs)
safe_as packages now first last n b es fs stands same ps k = rw same (record {
  safe = k.safe;
  tied = subst (λ d. IsTied first.device.core.device.rows d.rows last.agent.core.session.records es) stands.joined.device
      (subst (λ x. IsTied first.device.core.device.rows n.pair.device.rows x.records es) stands.joined.session k.tied);
})

-- THE WORLD

abbrev pub SafeAt : (opening w : WorldOf) → (eid : ℕ) → Option PairOf → Option PairOf → Type 0
SafeAt opening w eid o p = IfSome o (λ m. IsSomeAnd p (λ n. IsSafeAndTied opening.packages (shown_pair m []) (shown_pair n (history_of eid w.history))))

safe_in_place : (opening w : WorldOf) (i eid : ℕ) (first : LinkOf) (o : Option LinkOf) → (k : Stand opening w) → AreSafeMessages (messages_of opening) k.messages
    → slice_get (eids_of opening) i ≡ Some eid → slice_get (map eid_of (messages_of opening).nodes) i ≡ Some eid → AreDifferent (map eid_of (messages_of opening).nodes)
    → slice_get (links_of opening) i ≡ Some first → slice_get (links_of w) i ≡ o → is_some o ≡ true → SafeAt opening w eid (Some (pair_of first)) (option_map pair_of o)
safe_in_place opening w i eid first None k safe at there apart here is some = absurd (cc)
safe_in_place opening w i eid first (Some last) k safe at there apart here is some =
    let p = pair_there k.messages.packages w.now (links_of w) k.messages.nodes i last k.stands.stand is in
    let was : node_at (messages_of opening).nodes eid ≡ Some (opening_node first) =
    node_placed (messages_of opening).nodes i eid (opening_node first) apart there (map_get opening_node (links_of opening) i first here) in
    let now : node_at k.messages.nodes eid ≡ Some p.node =
    node_placed k.messages.nodes i eid p.node k.stands.apart (ap (λ ks. slice_get ks i) (k.eids ∙ k.devices) ∙ at) p.at in
    let before = history_of eid (messages_of opening).history in
    let after = history_of eid k.messages.history in
    let all = pairs_shown (λ n. shown_pair n.pair before) (λ m. shown_pair m.pair after) (node_at (messages_of opening).nodes eid) (node_at k.messages.nodes eid)
    (IsSafeAndTied opening.packages) (safe eid) in
    let given = subst (λ x. IfSome x (λ n. IsSomeAnd (node_at k.messages.nodes eid) (IsSafeNode opening.packages before n after))) was all in
    let known = subst (λ x. IsSomeAnd x (IsSafeNode opening.packages before (opening_node first) after)) now given in
    safe_as k.messages.packages w.now first last p.node before (history_of eid k.messages.history) (history_of eid w.history) p.stands (ap (history_of eid) (sym k.history)) opening.packages known

safe_by : (opening w : WorldOf) (eid : ℕ) (o : Option LinkOf) → IsOpeningWorld opening → (begins : Stand opening opening) → (k : Stand opening w) → AreSafeMessages (messages_of opening) k.messages
    → link_at opening eid ≡ o → SafeAt opening w eid (option_map pair_of o) (option_map pair_of (link_at w eid))
safe_by opening w eid None is begins k safe e = tt
safe_by opening w eid (Some first) is begins k safe e =
    let at = site_stood opening eid (site_for opening.sites eid) refl (linked_site _ _ (site_for opening.sites eid) first e) in
    let there : slice_get (eids_of w) at.place ≡ Some eid = ap (λ ks. slice_get ks at.place) k.devices ∙ at.at in
    let eids = opening_eids opening is in
    subst (λ o. SafeAt opening w eid (Some (pair_of first)) (option_map pair_of o)) (link_by_place w at.place eid k.halves k.apart.1 there)
    (safe_in_place opening w at.place eid first (slice_get (links_of w) at.place) k safe at.at
    (ap (λ ks. slice_get ks at.place) eids ∙ at.at) (subst AreDifferent (sym eids) begins.apart.1)
    (link_by_place opening at.place eid begins.halves begins.apart.1 at.at ∙ e) refl (link_there w at.place eid (known_links opening w k) there))

-- what was shown of the history at the opening doesn't matter
opened_by : (ps : List PackageText) (o p : Option PairOf) (b c es : List EntryOf) → IfSome o (λ m. IsSomeAnd p (λ n. IsSafeAndTied ps (shown_pair m b) (shown_pair n es)))
    → IfSome o (λ m. IsSomeAnd p (λ n. IsSafeAndTied ps (shown_pair m c) (shown_pair n es)))
opened_by ps None p b c es h = tt
opened_by ps (Some m) None b c es h = h
opened_by ps (Some m) (Some n) b c es h = record { safe = h.safe; tied = h.tied }

-- The headline from the pairs, and the pairs from the headline.
by_pairs : (opening w : WorldOf) → ((eid : ℕ) → SafeAt opening w eid (pair_for opening eid) (pair_for w eid)) → IsSafeWorld opening w
by_pairs opening w h eid =
    pairs_show (λ m. shown_pair m (history_of eid opening.history)) (λ m. shown_pair m (history_of eid w.history)) (pair_for opening eid) (pair_for w eid)
    (IsSafeAndTied opening.packages)
    (opened_by opening.packages (pair_for opening eid) (pair_for w eid) [] (history_of eid opening.history) (history_of eid w.history) (h eid))

pub pairs_safe : PacketsAreSafe → (opening w : WorldOf) (steps : List Step) → IsOpeningWorld opening → Run opening steps w
    → (eid : ℕ) → SafeAt opening w eid (pair_for opening eid) (pair_for w eid)
pairs_safe law opening w steps opens run eid =
    opened_by opening.packages (pair_for opening eid) (pair_for w eid) (history_of eid opening.history) [] (history_of eid w.history)
    (pairs_shown (λ m. shown_pair m (history_of eid opening.history)) (λ m. shown_pair m (history_of eid w.history)) (pair_for opening eid) (pair_for w eid)
    (IsSafeAndTied opening.packages) (law opening w steps opens run eid))

is_safe : (opening w : WorldOf) → IsOpeningWorld opening → Stand opening opening → (k : Stand opening w) → AreSafeMessages (messages_of opening) k.messages → IsSafeWorld opening w
is_safe opening w is begins k safe = by_pairs opening w (λ eid.
    subst (λ o. SafeAt opening w eid o (pair_for w eid)) (sym (pair_linked _ (half_for opening.agent eid) (site_for opening.sites eid)))
    (subst (SafeAt opening w eid (option_map pair_of (link_at opening eid))) (sym (pair_linked _ (half_for w.agent eid) (site_for w.sites eid)))
    (safe_by opening w eid (link_at opening eid) is begins k safe refl)))

-- Every world that steps reach from an opening world is safe.
pub worlds_safe : LaneIsACell → LinksAreLanes → LinksAreMessages → MessagesAreSafe → PacketsAreSafe
worlds_safe law lanes messages safe = λ opening w steps is run.
    let begins = opening_stands law opening is in
    let k = stand_along law lanes messages opening opening w steps begins run in
    is_safe opening w is begins k (reached_safe safe (messages_of opening) k.messages (opening_messages opening is) k.reaches)

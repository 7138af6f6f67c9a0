-- A world that matches one over whole messages, and still does after each step.
use Rattle.std.proofs.Common.{◌≡◌, ◌≢◌, ◌∙◌, ◌++◌, ◌∷◌, [], ℕ, zero, suc, Bool, true, false, is_some, List, map, append-nil, slice_get, slice_set, Option, Some, None, IfSome, refl, sym, ap, subst}
use Rattle.std.specs.Option.{option_map}
use Rattle.fw_package.specs.Package.{PackageText}
use Rattle.fw_message.specs.Worlds.{NodeOf, NotedOf, noted_of}
use Rattle.fw_message.specs.Worlds.{MessageWorldOf as MessageWorld}
use Rattle.fw_steps.specs.Widths.{HaveMessageWidths}
use Rattle.fw_steps.specs.Opening.{AreDifferent}
use Rattle.fw_steps.specs.LinksAreMessages.{LinksAreMessages}
use Rattle.fw_steps.specs.Lanes.{LinkExplained}
use Rattle.fw_steps.specs.LinksAreLanes.{LinkStepRoundTrips, LinksAreLanes, MayHappen}
use Rattle.fw_steps.specs.Links.{LinkOf, LinkStep, LinkStepped, link_after, time_after}
use Rattle.fw_steps.specs.Worlds.{WorldOf, site_for}
use Rattle.fw_steps.specs.declared.step.Step.{Step}
use Rattle.fw_steps.proofs.LinksAreMessages.Each.{AllStand, IsAlone, eid_of}
use Rattle.fw_steps.proofs.LinksAreMessages.Moves.{MovesOn, WorldStands, one_moves}
use Rattle.fw_steps.proofs.LinksAreMessages.Stands.{Stands}
use Rattle.fw_steps.proofs.LinksAreMessages.Worlds.{Reaches, opening_node, reaches_on}
use Rattle.fw_steps.proofs.LinksAreLanes.Delivered.{IsLinkOf}
use Rattle.fw_steps.proofs.LinksAreLanes.Keys.{eids_of, peers_of}
use Rattle.fw_steps.proofs.LinksAreLanes.Linked.{KnownLinks, link_there, linked_site, site_stood}
use Rattle.fw_steps.proofs.LinksAreLanes.Listed.{link_by_place, links_of}
use Rattle.fw_steps.proofs.LinksAreLanes.Places.{SameDevices, all_links_become, one_link_becomes}
use Rattle.fw_steps.proofs.LinksAreLanes.Projected.{LinkStepsTo, link_step}
use Rattle.fw_steps.proofs.LinksAreLanes.Projection.{link_at}
use Rattle.fw_steps.proofs.PacketsAreSafe.KnownDeaf.{DeafAs, deaf_on_link, deaf_then}
use Rattle.fw_steps.proofs.PacketsAreSafe.KnownSteps.{gone_to, may_happen}

-- the world of messages that matches an opening world of packets
abbrev pub messages_of : WorldOf → MessageWorld
messages_of w = record { agent = w.agent.endpoint.eid; packages = w.packages; nodes = map opening_node (links_of w); history = [] }

-- a link has its nodes' identifiers, and the agent's count
pub record IsOwnLink (w : WorldOf) (eid : ℕ) (l : LinkOf) : Type 0 where
  pub agent : l.agent.own ≡ w.agent.endpoint.eid
  pub device : l.device.own ≡ eid
  pub asking : l.agent.asker.deaf ≡ w.agent.deaf

abbrev pub AreOwn : WorldOf → Type 0
AreOwn w = (i eid : ℕ) (l : LinkOf) → slice_get (eids_of w) i ≡ Some eid → slice_get (links_of w) i ≡ Some l → IsOwnLink w eid l

-- The devices are different and those of the opening, and the agent has a half for each; and steps
-- over whole messages reach a world that matches the links, with the same history.
pub record Stand (opening w : WorldOf) : Type 0 where
  pub halves : peers_of w ≡ eids_of w
  pub apart : AreDifferent (w.agent.endpoint.eid ∷ eids_of w)
  pub devices : eids_of w ≡ eids_of opening
  pub own : AreOwn w
  pub messages : MessageWorld
  pub stands : WorldStands w.now (links_of w) messages
  pub packages : messages.packages ≡ w.packages
  pub agent : messages.agent ≡ w.agent.endpoint.eid
  pub history : messages.history ≡ w.history
  pub eids : map eid_of messages.nodes ≡ eids_of w
  pub reaches : Reaches (messages_of opening) messages
  pub speaks : HaveMessageWidths (messages_of opening)

-- Facts about a world after a step. The entries added to the history are those of the link that
-- takes a step.
pub record Follows (works : Bool) (s : Step) (w v : WorldOf) : Type 0 where
  pub packages : v.packages ≡ w.packages
  pub peers : peers_of v ≡ peers_of w
  pub eids : eids_of v ≡ eids_of w
  pub agent : v.agent.endpoint.eid ≡ w.agent.endpoint.eid
  pub deaf : (eid : ℕ) → DeafAs (link_step works w.agent.endpoint.eid s eid) w.agent.deaf v.agent.deaf
  pub goes : (eid : ℕ) (l : LinkOf) → link_at w eid ≡ Some l → LinkStepsTo w.now w.packages l (link_step works w.agent.endpoint.eid s eid) (link_at v eid)
  pub said : (eid : ℕ) (l : LinkOf) → link_at w eid ≡ Some l → IfSome (link_step works w.agent.endpoint.eid s eid) (LinkStepRoundTrips w.packages l)
  pub taken : (eid : ℕ) (l : LinkOf) (step : LinkStep) (t : LinkStepped) → link_at w eid ≡ Some l → link_step works w.agent.endpoint.eid s eid ≡ Some step → link_after w.now w.packages l step ≡ Some t
      → v.history ≡ w.history ++ map (noted_of eid) t.noted
  pub untaken : ((eid : ℕ) (l : LinkOf) → link_at w eid ≡ Some l → link_step works w.agent.endpoint.eid s eid ≡ None) → v.history ≡ w.history

-- THE ELEMENT AT A PLACE

pub record PairThere (packages : List PackageText) (now : ℕ) (ns : List NodeOf) (i : ℕ) (l : LinkOf) : Type 0 where
  pub node : NodeOf
  pub at : slice_get ns i ≡ Some node
  pub stands : Stands packages now l node.pair

pub pair_there : (packages : List PackageText) (now : ℕ) (ls : List LinkOf) (ns : List NodeOf) (i : ℕ) (l : LinkOf) → AllStand packages now ls ns → slice_get ls i ≡ Some l → PairThere packages now ns i l
pair_there packages now [] [] i l stand e = absurd (cc)
pair_there packages now (x ∷ ls) (n ∷ ns) zero l stand e =
    let same : x ≡ l = cc in
    record { node = n; at = refl; stands = subst (λ y. Stands packages now y n.pair) same stand.0 }
pair_there packages now (x ∷ ls) (n ∷ ns) (suc i) l stand e =
    let rest = pair_there packages now ls ns i l stand.1 e in
    record { node = rest.node; at = rest.at; stands = rest.stands }
pair_there packages now [] (n ∷ ns) i l stand e = absurd stand
pair_there packages now (x ∷ ls) [] i l stand e = absurd stand

link_known : (packages : List PackageText) (ns : List NodeOf) (i eid : ℕ) (w : WorldOf) (l : LinkOf) → IsOwnLink w eid l → PairThere packages w.now ns i l → IsLinkOf w eid l
link_known packages ns i eid w l own there = record {
  explained = there.stands.explained;
  agent = own.agent;
  device = own.device;
  asking = own.asking;
  answering = sym there.stands.joined.agent_deaf ∙ own.asking;
}

-- So each of its links is explained.
pub known_links : (opening w : WorldOf) → Stand opening w → KnownLinks w
known_links opening w k = record {
  halves = k.halves;
  apart = k.apart;
  links = λ i eid l e f. link_known k.messages.packages k.messages.nodes i eid w l (k.own i eid l e f)
      (pair_there k.messages.packages w.now (links_of w) k.messages.nodes i l k.stands.stand f);
}

-- THE LINKS AFTER A STEP

one_after : (o : Option LinkStepped) (t u : LinkStepped) → o ≡ Some t → o ≡ Some u → t ≡ u
one_after o t u e f = cc

own_by : LinksAreLanes → (w v : WorldOf) (eid : ℕ) (l m : LinkOf) (o : Option LinkStep) (after : Option LinkOf) → v.agent.endpoint.eid ≡ w.agent.endpoint.eid → IsOwnLink w eid l → LinkExplained w.now l
    → IfSome o (LinkStepRoundTrips w.packages l) → DeafAs o w.agent.deaf v.agent.deaf → LinkStepsTo w.now w.packages l o after → after ≡ Some m → IsOwnLink v eid m
own_by lanes w v eid l m None after agent own explained said deaf goes e =
    let same : l ≡ m = (let both : Some l ≡ Some m = sym goes ∙ e in cc) in
    subst (IsOwnLink v eid) same (record { agent = own.agent ∙ sym agent; device = own.device; asking = own.asking ∙ sym deaf })
own_by lanes w v eid l m (Some s) after agent own explained said deaf goes e =
    let g = gone_to w.now w.packages l s after goes in
    let on = lanes w.now w.packages l s explained (may_happen w.now w.packages l s g.stepped g.goes) said in
    let same : g.stepped.after ≡ m = (let both : Some g.stepped.after ≡ Some m = sym g.is ∙ e in cc) in
    let stepped : on.stepped ≡ g.stepped = one_after (link_after w.now w.packages l s) on.stepped g.stepped on.after g.goes in
    subst (IsOwnLink v eid) same (record {
      agent = ap (λ t. t.after.agent.own) (sym stepped) ∙ on.agent_own ∙ own.agent ∙ sym agent;
      device = ap (λ t. t.after.device.own) (sym stepped) ∙ on.device_own ∙ own.device;
      asking = deaf_on_link w.now w.packages l s g.stepped g.goes ∙ ap (deaf_then s) own.asking ∙ sym deaf;
    })

own_of : LinksAreLanes → (works : Bool) (s : Step) (w v : WorldOf) (i eid : ℕ) (m : LinkOf) (o : Option LinkOf) → KnownLinks w → AreOwn w → Follows works s w v
    → slice_get (eids_of w) i ≡ Some eid → slice_get (links_of w) i ≡ o → is_some o ≡ true → slice_get (links_of v) i ≡ Some m → IsOwnLink v eid m
own_of lanes works s w v i eid m None k own f e there some is = absurd (cc)
own_of lanes works s w v i eid m (Some l) k own f e there some is =
    let before : link_at w eid ≡ Some l = sym (link_by_place w i eid k.halves k.apart.1 e) ∙ there in
    let after : link_at v eid ≡ Some m =
    sym (link_by_place v i eid (f.peers ∙ k.halves ∙ sym f.eids) (subst AreDifferent (sym f.eids) k.apart.1) (ap (λ ks. slice_get ks i) f.eids ∙ e)) ∙ is in
    own_by lanes w v eid l m (link_step works w.agent.endpoint.eid s eid) (link_at v eid) f.agent (own i eid l e there) (k.links i eid l e there).explained
    (f.said eid l before) (f.deaf eid) (f.goes eid l before) after

-- The links keep their identifiers, and the agent's halves its count.
own_after : LinksAreLanes → (works : Bool) (s : Step) (w v : WorldOf) → KnownLinks w → AreOwn w → Follows works s w v → AreOwn v
own_after lanes works s w v k own f = λ i eid m e is.
    let at : slice_get (eids_of w) i ≡ Some eid = ap (λ ks. slice_get ks i) (sym f.eids) ∙ e in
    own_of lanes works s w v i eid m (slice_get (links_of w) i) k own f at refl (link_there w i eid k at) is

-- no link appears
absent_by : (w v : WorldOf) (eid : ℕ) (o : Option LinkOf) → KnownLinks w → eids_of v ≡ eids_of w → link_at w eid ≡ None → link_at v eid ≡ o → o ≡ None
absent_by w v eid None k same none e = refl
absent_by w v eid (Some l) k same none e =
    let at = site_stood v eid (site_for v.sites eid) refl (linked_site _ _ (site_for v.sites eid) l e) in
    let there : slice_get (eids_of w) at.place ≡ Some eid = ap (λ ks. slice_get ks at.place) (sym same) ∙ at.at in
    let some = link_there w at.place eid k there in
    let no : false ≡ true = sym (ap is_some (link_by_place w at.place eid k.halves k.apart.1 there ∙ none)) ∙ some in
    absurd (cc)

pub stays_absent : (w v : WorldOf) (eid : ℕ) → KnownLinks w → eids_of v ≡ eids_of w → link_at w eid ≡ None → link_at v eid ≡ None
stays_absent w v eid k same none = absent_by w v eid (link_at v eid) k same none refl

stays_by : (works : Bool) (s : Step) (w v : WorldOf) (eid : ℕ) (o : Option LinkOf) → KnownLinks w → Follows works s w v → link_at w eid ≡ o → link_step works w.agent.endpoint.eid s eid ≡ None → link_at v eid ≡ o
stays_by works s w v eid None k f e none = stays_absent w v eid k f.eids e
stays_by works s w v eid (Some l) k f e none = subst (λ x. LinkStepsTo w.now w.packages l x (link_at v eid)) none (f.goes eid l e)

-- a link without a step stays
link_stays : (works : Bool) (s : Step) (w v : WorldOf) (eid : ℕ) → KnownLinks w → Follows works s w v → link_step works w.agent.endpoint.eid s eid ≡ None → link_at v eid ≡ link_at w eid
link_stays works s w v eid k f none = stays_by works s w v eid (link_at w eid) k f refl none

pub same_devices : (works : Bool) (s : Step) (w v : WorldOf) → KnownLinks w → Follows works s w v → SameDevices w v
same_devices works s w v k f = record { halves = k.halves; apart = k.apart.1; peers = f.peers; eids = f.eids }

unmoved_by : (works : Bool) (s : Step) (w v : WorldOf) (eid : ℕ) (o : Option LinkOf) → KnownLinks w → Follows works s w v → ((l : LinkOf) → link_at w eid ≡ Some l → link_step works w.agent.endpoint.eid s eid ≡ None)
    → link_at w eid ≡ o → link_at v eid ≡ option_map (λ l. l) o
unmoved_by works s w v eid None k f none e = stays_absent w v eid k f.eids e
unmoved_by works s w v eid (Some l) k f none e = link_stays works s w v eid k f (none l e) ∙ e

map_same : (ls : List LinkOf) → map (λ l. l) ls ≡ ls
map_same [] = refl
map_same (l ∷ ls) = ap (λ xs. l ∷ xs) (map_same ls)

same_links : (works : Bool) (s : Step) (w v : WorldOf) → KnownLinks w → Follows works s w v → ((eid : ℕ) (l : LinkOf) → link_at w eid ≡ Some l → link_step works w.agent.endpoint.eid s eid ≡ None) → links_of v ≡ links_of w
same_links works s w v k f none =
    all_links_become w v (λ l. l) (same_devices works s w v k f) (λ eid. unmoved_by works s w v eid (link_at w eid) k f (none eid) refl) ∙ map_same (links_of w)

-- THE WORLD AFTER A STEP

apart_after : (a b : ℕ) (xs ys : List ℕ) → b ≡ a → ys ≡ xs → AreDifferent (a ∷ xs) → AreDifferent (b ∷ ys)
apart_after a b xs ys e f k = rw (e, f) k

-- the world of messages took its steps
pub stand_moved : LinksAreLanes → (opening w v : WorldOf) (works : Bool) (s : Step) (now : ℕ) (ls : List LinkOf) (notes : List NotedOf) (k : Stand opening w) → Follows works s w v
    → MovesOn now ls notes k.messages → links_of v ≡ ls → v.now ≡ now → v.history ≡ w.history ++ notes → Stand opening v
stand_moved lanes opening w v works s now ls notes k f m links time noted = record {
  halves = f.peers ∙ k.halves ∙ sym f.eids;
  apart = apart_after w.agent.endpoint.eid v.agent.endpoint.eid (eids_of w) (eids_of v) f.agent f.eids k.apart;
  devices = f.eids ∙ k.devices;
  own = own_after lanes works s w v (known_links opening w k) k.own f;
  messages = m.after;
  stands = subst (λ xs. WorldStands v.now xs m.after) (sym links) (subst (λ n. WorldStands n ls m.after) (sym time) m.stands);
  packages = m.packages ∙ k.packages ∙ sym f.packages;
  agent = m.agent ∙ k.agent ∙ sym f.agent;
  history = m.history ∙ ap (λ h. h ++ notes) k.history ∙ sym noted;
  eids = m.same ∙ k.eids ∙ sym f.eids;
  reaches = reaches_on (messages_of opening) k.messages now ls notes k.reaches m;
  speaks = k.speaks;
}

-- no link takes a step
stays_put : (now : ℕ) (ls : List LinkOf) (m : MessageWorld) → WorldStands now ls m → MovesOn now ls [] m
stays_put now ls m stands = record { steps = []; named = tt; after = m; along = refl; packages = refl; agent = refl; history = sym (append-nil m.history); same = refl; stands = stands }

pub stand_none : LinksAreLanes → (opening w v : WorldOf) (works : Bool) (s : Step) → Stand opening w → Follows works s w v → v.now ≡ w.now
    → ((eid : ℕ) (l : LinkOf) → link_at w eid ≡ Some l → link_step works w.agent.endpoint.eid s eid ≡ None) → Stand opening v
stand_none lanes opening w v works s k f time none =
    stand_moved lanes opening w v works s w.now (links_of w) [] k f (stays_put w.now (links_of w) k.messages k.stands)
    (same_links works s w v (known_links opening w k) f none) time (f.untaken none ∙ sym (append-nil w.history))

-- one link takes a step
pub stand_one : LinksAreLanes → LinksAreMessages → (opening w v : WorldOf) (works : Bool) (s : Step) (own : ℕ) (l : LinkOf) (step : LinkStep) → Stand opening w → Follows works s w v → v.now ≡ w.now
    → link_at w own ≡ Some l → link_step works w.agent.endpoint.eid s own ≡ Some step → time_after w.now step ≡ w.now → IsAlone step
    → ((eid : ℕ) → eid ≢ own → link_step works w.agent.endpoint.eid s eid ≡ None) → Stand opening v
stand_one lanes messages opening w v works s own l step k f time is mine soon alone others =
    let known = known_links opening w k in
    let at = site_stood w own (site_for w.sites own) refl (linked_site _ _ (site_for w.sites own) l is) in
    let said : LinkStepRoundTrips w.packages l step = subst (λ o. IfSome o (LinkStepRoundTrips w.packages l)) mine (f.said own l is) in
    let g = gone_to w.now w.packages l step (link_at v own) (subst (λ o. LinkStepsTo w.now w.packages l o (link_at v own)) mine (f.goes own l is)) in
    let may : MayHappen w.now w.packages l step = may_happen w.now w.packages l step g.stepped g.goes in
    let links = one_link_becomes w v at.place own l g.stepped.after (same_devices works s w v known f) at.at is g.is (λ eid far. link_stays works s w v eid known f (others eid far)) in
    let m = one_moves lanes messages w.now k.messages (links_of w) at.place l step g.stepped own k.stands
    (link_by_place w at.place own k.halves k.apart.1 at.at ∙ is) (ap (λ ks. slice_get ks at.place) k.eids ∙ at.at) soon alone
    (subst (λ ps. MayHappen w.now ps l step) (sym k.packages) may) (subst (λ ps. LinkStepRoundTrips ps l step) (sym k.packages) said)
    (subst (λ ps. link_after w.now ps l step ≡ Some g.stepped) (sym k.packages) g.goes) in
    stand_moved lanes opening w v works s w.now (slice_set (links_of w) at.place g.stepped.after) (map (noted_of own) g.stepped.noted) k f m links time
    (f.taken own l step g.stepped is mine g.goes)

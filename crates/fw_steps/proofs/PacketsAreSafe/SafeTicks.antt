-- A world that matches one over whole messages still does after a step of all its links.
use Rattle.std.proofs.Common.{◌≡◌, ◌∙◌, ◌++◌, ◌∷◌, [], ℕ, suc, Bool, List, map, append-nil, slice_get, Option, Some, None, IfSome, refl, sym, ap, subst}
use Rattle.std.specs.Option.{option_map}
use Rattle.fw_package.specs.Package.{PackageText}
use Rattle.fw_message.specs.declared.side.Side.TheVariants as sides
use Rattle.fw_steps.specs.LinksAreMessages.{LinksAreMessages}
use Rattle.fw_steps.specs.LinksAreLanes.{LinkStepRoundTrips, LinksAreLanes, MayHappen}
use Rattle.fw_steps.specs.Links.{LinkOf, LinkStep, LinkStepped, link_after, time_after, link_step_without_entries}
use Rattle.fw_steps.specs.Worlds.{WorldOf}
use Rattle.fw_steps.specs.declared.step.Step.{Step}
use Rattle.fw_steps.proofs.LinksAreMessages.Each.{AllAfter, IsAlone, eid_of, link_of, notes_of}
use Rattle.fw_steps.proofs.LinksAreMessages.Moves.{AllMayHappen, MovesOn, all_move}
use Rattle.fw_steps.proofs.LinksAreMessages.Restarts.{all_restart_move}
use Rattle.fw_steps.proofs.LinksAreMessages.Worlds.{AreUnnoted, none_noted, restarts_unnoted}
use Rattle.fw_steps.proofs.LinksAreLanes.Keys.{eids_of}
use Rattle.fw_steps.proofs.LinksAreLanes.Linked.{KnownLinks}
use Rattle.fw_steps.proofs.LinksAreLanes.Listed.{link_by_place, links_of}
use Rattle.fw_steps.proofs.LinksAreLanes.Places.{all_links_become, past_links}
use Rattle.fw_steps.proofs.LinksAreLanes.Projected.{LinkStepsTo, link_step}
use Rattle.fw_steps.proofs.LinksAreLanes.Projection.{link_at}
use Rattle.fw_steps.proofs.PacketsAreSafe.KnownSteps.{gone_to, may_happen}
use Rattle.fw_steps.proofs.PacketsAreSafe.SafeStands.{Follows, Stand, known_links, same_devices, stand_moved, stays_absent}

-- all links after a step without entries
abbrev all_gone : (LinkOf → LinkOf) → List LinkOf → List LinkStepped
all_gone f ls = map (λ l. link_step_without_entries (f l)) ls

gone_each : (packages : List PackageText) (now : ℕ) (s : LinkOf → LinkStep) (f : LinkOf → LinkOf) (ls : List LinkOf)
    → ((i : ℕ) (l : LinkOf) → slice_get ls i ≡ Some l → link_after now packages l (s l) ≡ Some (link_step_without_entries (f l))) → AllAfter packages now s ls (all_gone f ls)
gone_each packages now s f [] k = tt
gone_each packages now s f (l ∷ ls) k = (k 0 l refl, gone_each packages now s f ls (λ i x e. k (suc i) x e))

gone_links : (f : LinkOf → LinkOf) (ls : List LinkOf) → map link_of (all_gone f ls) ≡ map f ls
gone_links f [] = refl
gone_links f (l ∷ ls) = ap (λ xs. f l ∷ xs) (gone_links f ls)

gone_unnoted : (f : LinkOf → LinkOf) (ls : List LinkOf) → AreUnnoted (all_gone f ls)
gone_unnoted f [] = tt
gone_unnoted f (l ∷ ls) = (refl, gone_unnoted f ls)

-- each may take it
may_each : (now : ℕ) (packages : List PackageText) (s : LinkOf → LinkStep) (ls : List LinkOf) → ((i : ℕ) (l : LinkOf) → slice_get ls i ≡ Some l → MayHappen now packages l (s l) × LinkStepRoundTrips packages l (s l)) → AllMayHappen now packages s ls
may_each now packages s [] k = tt
may_each now packages s (l ∷ ls) k = ((k 0 l refl).0, (k 0 l refl).1, may_each now packages s ls (λ i x e. k (suc i) x e))

-- the step of each link, and the link after it
abbrev pub IsStepAt : (works : Bool) → Step → WorldOf → (LinkOf → LinkStep) → Type 0
IsStepAt works s w step = (eid : ℕ) (l : LinkOf) → link_at w eid ≡ Some l → link_step works w.agent.endpoint.eid s eid ≡ Some (step l)

abbrev pub LeadsAll : WorldOf → (LinkOf → LinkStep) → (LinkOf → LinkOf) → Type 0
LeadsAll w step f = (eid : ℕ) (l : LinkOf) → link_at w eid ≡ Some l → link_after w.now w.packages l (step l) ≡ Some (link_step_without_entries (f l))

-- the link at a place is that of a device
found_by : (w : WorldOf) (i : ℕ) (l : LinkOf) (o : Option ℕ) (P : Type 0) → KnownLinks w → slice_get (eids_of w) i ≡ o → slice_get (links_of w) i ≡ Some l → ((eid : ℕ) → link_at w eid ≡ Some l → P) → P
found_by w i l None P k e is go = absurd (let no : None ≡ Some l = sym (past_links w i e) ∙ is in cc)
found_by w i l (Some eid) P k e is go = go eid (sym (link_by_place w i eid k.halves k.apart.1 e) ∙ is)

leads_in_place : (w : WorldOf) (step : LinkOf → LinkStep) (f : LinkOf → LinkOf) (i : ℕ) (l : LinkOf) → KnownLinks w → LeadsAll w step f → slice_get (links_of w) i ≡ Some l
    → link_after w.now w.packages l (step l) ≡ Some (link_step_without_entries (f l))
leads_in_place w step f i l k is e =
    found_by w i l (slice_get (eids_of w) i) (link_after w.now w.packages l (step l) ≡ Some (link_step_without_entries (f l))) k refl e (λ eid there. is eid l there)

may_in_place : (works : Bool) (s : Step) (w v : WorldOf) (step : LinkOf → LinkStep) (i : ℕ) (l : LinkOf) → KnownLinks w → Follows works s w v → IsStepAt works s w step
    → slice_get (links_of w) i ≡ Some l → MayHappen w.now w.packages l (step l) × LinkStepRoundTrips w.packages l (step l)
may_in_place works s w v step i l k f mine e =
    found_by w i l (slice_get (eids_of w) i) (MayHappen w.now w.packages l (step l) × LinkStepRoundTrips w.packages l (step l)) k refl e
    (λ eid is.
    let g = gone_to w.now w.packages l (step l) (link_at v eid) (subst (λ o. LinkStepsTo w.now w.packages l o (link_at v eid)) (mine eid l is) (f.goes eid l is)) in
    (may_happen w.now w.packages l (step l) g.stepped g.goes, subst (λ o. IfSome o (LinkStepRoundTrips w.packages l)) (mine eid l is) (f.said eid l is)))

-- each link takes its step
goes_by : (works : Bool) (s : Step) (w v : WorldOf) (step : LinkOf → LinkStep) (f : LinkOf → LinkOf) (eid : ℕ) (o : Option LinkOf) → KnownLinks w → Follows works s w v → IsStepAt works s w step
    → LeadsAll w step f → link_at w eid ≡ o → link_at v eid ≡ option_map f o
goes_by works s w v step f eid None k h mine is e = stays_absent w v eid k h.eids e
goes_by works s w v step f eid (Some l) k h mine is e =
    let g = gone_to w.now w.packages l (step l) (link_at v eid) (subst (λ o. LinkStepsTo w.now w.packages l o (link_at v eid)) (mine eid l e) (h.goes eid l e)) in
    let same : g.stepped ≡ link_step_without_entries (f l) = (let both : Some g.stepped ≡ Some (link_step_without_entries (f l)) = sym g.goes ∙ is eid l e in cc) in
    g.is ∙ ap (λ t. Some t.after) same

-- the world of messages takes a step with the links
abbrev AllGo : (opening w : WorldOf) → Stand opening w → (then : ℕ) → (LinkOf → LinkStep) → Type 0
AllGo opening w k then step =
    (ts : List LinkStepped) → AllMayHappen w.now k.messages.packages step (links_of w) → AllAfter k.messages.packages w.now step (links_of w) ts
    → MovesOn then (map link_of ts) (notes_of (map eid_of k.messages.nodes) ts) k.messages

stand_going : LinksAreLanes → (then : ℕ) (opening w v : WorldOf) (works : Bool) (s : Step) (step : LinkOf → LinkStep) (f : LinkOf → LinkOf) (k : Stand opening w) → AllGo opening w k then step → Follows works s w v
    → v.now ≡ then → IsStepAt works s w step → LeadsAll w step f
    → v.history ≡ w.history → Stand opening v
stand_going lanes then opening w v works s step f k go h time mine is noted =
    let known = known_links opening w k in
    let ls = links_of w in
    let notes = notes_of (map eid_of k.messages.nodes) (all_gone f ls) in
    let links = all_links_become w v f (same_devices works s w v known h) (λ eid. goes_by works s w v step f eid (link_at w eid) known h mine is refl) in
    let may : AllMayHappen w.now w.packages step ls = may_each w.now w.packages step ls (λ i l e. may_in_place works s w v step i l known h mine e) in
    let after : AllAfter w.packages w.now step ls (all_gone f ls) = gone_each w.packages w.now step f ls (λ i l e. leads_in_place w step f i l known is e) in
    let m = go (all_gone f ls)
    (subst (λ ps. AllMayHappen w.now ps step ls) (sym k.packages) may) (subst (λ ps. AllAfter ps w.now step ls (all_gone f ls)) (sym k.packages) after) in
    stand_moved lanes opening w v works s then (map link_of (all_gone f ls)) notes k h m (links ∙ sym (gone_links f ls)) time
    (noted ∙ sym (append-nil w.history) ∙ ap (λ xs. w.history ++ xs) (sym (none_noted (map eid_of k.messages.nodes) (all_gone f ls) (gone_unnoted f ls))))

-- All links take a step that notes nothing and isn't a restart of the agent.
pub stand_all : LinksAreLanes → LinksAreMessages → (then : ℕ) (opening w v : WorldOf) (works : Bool) (s : Step) (step : LinkOf → LinkStep) (f : LinkOf → LinkOf) → ((l : LinkOf) → IsAlone (step l)) → ((l : LinkOf) → time_after w.now (step l) ≡ then) → Stand opening w → Follows works s w v
    → v.now ≡ then → IsStepAt works s w step → LeadsAll w step f
    → v.history ≡ w.history → Stand opening v
stand_all lanes messages then opening w v works s step f alone times k h time mine is noted =
    stand_going lanes then opening w v works s step f k (λ ts may after. all_move lanes messages w.now then k.messages (links_of w) step ts alone times k.stands may after) h time mine is noted

-- The agent restarts.
pub stand_anew : LinksAreLanes → LinksAreMessages → (opening w v : WorldOf) (works : Bool) (s : Step) (f : LinkOf → LinkOf) → Stand opening w → Follows works s w v
    → v.now ≡ w.now → ((eid : ℕ) → link_step works w.agent.endpoint.eid s eid ≡ Some (LinkStep.Restart sides.Agent))
    → ((l : LinkOf) → link_after w.now w.packages l (LinkStep.Restart sides.Agent) ≡ Some (link_step_without_entries (f l))) → v.history ≡ w.history → Stand opening v
stand_anew lanes messages opening w v works s f k h time mine is noted =
    stand_going lanes w.now opening w v works s (λ l. LinkStep.Restart sides.Agent) f k
    (λ ts may after. subst (λ ns. MovesOn w.now (map link_of ts) ns k.messages)
    (sym (none_noted (map eid_of k.messages.nodes) ts (restarts_unnoted k.messages.packages w.now (links_of w) ts after)))
    (all_restart_move lanes messages w.now k.messages (links_of w) ts k.stands may after))
    h time (λ eid l e. mine eid) (λ eid l e. is l) noted

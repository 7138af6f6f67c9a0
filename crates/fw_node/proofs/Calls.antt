-- The operator's calls of the agent, from those of one of its halves.
use Rattle.std.proofs.Common.{◌≡◌, ◌∙◌, ℕ, List, map, slice_get, slice_set, Option, Some, None, is_some, true, refl, sym, ap}
use Rattle.std.specs.Option.{option_map}
use Rattle.std.proofs.lemmas.List.{map-set}
use Rattle.std.proofs.lemmas.Option.{slice_get-map}
use Rattle.fw_package.specs.Package.{PackageText}
use Rattle.sel_core.specs.Log.{LogOf}
use Rattle.ua_core.specs.Session.{SessionOf, TimedOf}
use Rattle.fw_node.specs.Agents.{AgentOf, half_after_activate, agent_becomes, becomes_at, free_for, free_in, half_at, half_for, place_of, ready_for, ready_in}
use Rattle.fw_node.specs.AgentViews.{agent_of, half_activated, half_free, half_in, half_noted, half_put, half_ready, halves_called, halves_noted}
use Rattle.fw_node.specs.Halves.{HalfOf}
use Rattle.fw_node.specs.Notes.{log_with_event}
use Rattle.fw_node.specs.declared.identity.Identity.{Identity}
use Rattle.fw_node.proofs.Places.{place_any}
use Rattle.fw_node.specs.declared.half.Half.{Half}

-- the half for a device whose place was found
pub half_found : (deaf : ℕ) (d : Identity) (l : LogOf) (ps : List (Half TimedOf)) (eid place : ℕ) → Some place ≡ place_of (map (half_in 0) ps) eid
    → half_for (agent_of deaf d l ps) eid ≡ option_map (half_in deaf) (slice_get ps place)
half_found deaf d l ps eid place is =
    ap (half_at (map (half_in deaf) ps)) (place_any deaf 0 ps eid ∙ sym is) ∙ slice_get-map (half_in deaf) ps place

pub half_lost : (deaf : ℕ) (d : Identity) (l : LogOf) (ps : List (Half TimedOf)) (eid : ℕ) → None ≡ place_of (map (half_in 0) ps) eid
    → half_for (agent_of deaf d l ps) eid ≡ None
half_lost deaf d l ps eid is = ap (half_at (map (half_in deaf) ps)) (place_any deaf 0 ps eid ∙ sym is)

pub known_found : (o : Option (HalfOf TimedOf)) → is_some o ≡ true → o ≡ None → ⊥
known_found None known lost = absurd (cc)
known_found (Some h) known lost = absurd (cc)

-- a call of the half there
put_there : (deaf now place : ℕ) (d : Identity) (l : LogOf) (ps : List (Half TimedOf)) (call : Half TimedOf → Half TimedOf) (step : HalfOf TimedOf → HalfOf TimedOf) (o : Option (Half TimedOf))
    → ((p : Half TimedOf) → half_in deaf (call p) ≡ step (half_in deaf p))
    → ◌≡◌ {A = AgentOf}
    (record { endpoint = d.endpoint; tid = d.tid; deaf = deaf; halves = map (half_in deaf) (half_put ps place call o); log = half_noted l now call o })
    (becomes_at (agent_of deaf d l ps) now step (Some place) (option_map (half_in deaf) o))
put_there deaf now place d l ps call step None same = refl
put_there deaf now place d l ps call step (Some p) same =
    ap (λ hs. record { endpoint = d.endpoint; tid = d.tid; deaf = deaf; halves = hs; log = log_with_event l now p.ends.asking.peer p.core (call p).core }) (map-set (half_in deaf) ps place (call p))
    ∙ ap (λ h. record { endpoint = d.endpoint; tid = d.tid; deaf = deaf; halves = slice_set (map (half_in deaf) ps) place h; log = log_with_event l now p.ends.asking.peer p.core h.core }) (same p)

called_there : (deaf now eid place : ℕ) (d : Identity) (l : LogOf) (ps : List (Half TimedOf)) (call : Half TimedOf → Half TimedOf) (step : HalfOf TimedOf → HalfOf TimedOf)
    → Some place ≡ place_of (map (half_in 0) ps) eid
    → ((p : Half TimedOf) → half_in deaf (call p) ≡ step (half_in deaf p))
    → ◌≡◌ {A = AgentOf}
    (record { endpoint = d.endpoint; tid = d.tid; deaf = deaf; halves = map (half_in deaf) (halves_called ps place call); log = halves_noted l now ps place call })
    (agent_becomes (agent_of deaf d l ps) now eid step)
called_there deaf now eid place d l ps call step is same =
    put_there deaf now place d l ps call step (slice_get ps place) same
    ∙ ap (becomes_at (agent_of deaf d l ps) now step (Some place)) (sym (half_found deaf d l ps eid place is))
    ∙ ap (λ o. becomes_at (agent_of deaf d l ps) now step o (half_for (agent_of deaf d l ps) eid)) (is ∙ place_any 0 deaf ps eid)

-- the same, from the values that the code leaves
pub calls_place : (deaf now eid place : ℕ) (d : Identity) (l log : LogOf) (ps qs : List (Half TimedOf)) (call : Half TimedOf → Half TimedOf) (step : HalfOf TimedOf → HalfOf TimedOf)
    → Some place ≡ place_of (map (half_in 0) ps) eid
    → ((p : Half TimedOf) → half_in deaf (call p) ≡ step (half_in deaf p))
    → qs ≡ halves_called ps place call → log ≡ halves_noted l now ps place call
    → ◌≡◌ {A = AgentOf} (record { endpoint = d.endpoint; tid = d.tid; deaf = deaf; halves = map (half_in deaf) qs; log = log }) (agent_becomes (agent_of deaf d l ps) now eid step)
calls_place deaf now eid place d l log ps qs call step is same parts notes =
    rw (parts, notes) (called_there deaf now eid place d l ps call step is same)

pub calls_nobody : (deaf now eid : ℕ) (d : Identity) (l : LogOf) (ps : List (Half TimedOf)) (step : HalfOf TimedOf → HalfOf TimedOf) → None ≡ place_of (map (half_in 0) ps) eid
    → agent_of deaf d l ps ≡ agent_becomes (agent_of deaf d l ps) now eid step
calls_nobody deaf now eid d l ps step is =
    ap (λ o. becomes_at (agent_of deaf d l ps) now step o (half_for (agent_of deaf d l ps) eid)) (is ∙ place_any 0 deaf ps eid)

-- whether it is free, and whether it is ready
free_of : (deaf : ℕ) (o : Option (Half TimedOf)) → free_in (option_map (half_in deaf) o) ≡ half_free o
free_of deaf None = refl
free_of deaf (Some p) = refl

pub free_there : (deaf eid place : ℕ) (d : Identity) (l : LogOf) (ps : List (Half TimedOf)) → Some place ≡ place_of (map (half_in 0) ps) eid
    → free_for (agent_of deaf d l ps) eid ≡ half_free (slice_get ps place)
free_there deaf eid place d l ps is = ap free_in (half_found deaf d l ps eid place is) ∙ free_of deaf (slice_get ps place)

ready_of : (deaf : ℕ) (o : Option (Half TimedOf)) → ready_in (option_map (half_in deaf) o) ≡ half_ready o
ready_of deaf None = refl
ready_of deaf (Some p) = refl

pub ready_there : (deaf eid place : ℕ) (d : Identity) (l : LogOf) (ps : List (Half TimedOf)) → Some place ≡ place_of (map (half_in 0) ps) eid
    → ready_for (agent_of deaf d l ps) eid ≡ half_ready (slice_get ps place)
ready_there deaf eid place d l ps is = ap ready_in (half_found deaf d l ps eid place is) ∙ ready_of deaf (slice_get ps place)

pub ready_nobody : (deaf eid : ℕ) (d : Identity) (l : LogOf) (ps : List (Half TimedOf)) → None ≡ place_of (map (half_in 0) ps) eid
    → ready_for (agent_of deaf d l ps) eid ≡ None
ready_nobody deaf eid d l ps is = ap ready_in (half_lost deaf d l ps eid is)

-- an activation, if the session is ready
activated_there : (packages : List PackageText) (deaf now eid place : ℕ) (d : Identity) (l log : LogOf) (ps qs : List (Half TimedOf)) (o : Option SessionOf)
    → Some place ≡ place_of (map (half_in 0) ps) eid
    → option_map (λ s. halves_called ps place (half_activated packages s)) o ≡ Some qs
    → option_map (λ s. halves_noted l now ps place (half_activated packages s)) o ≡ Some log
    → option_map {U = AgentOf} (λ s. agent_becomes (agent_of deaf d l ps) now eid (λ h. half_after_activate packages h s)) o
    ≡ Some (record { endpoint = d.endpoint; tid = d.tid; deaf = deaf; halves = map (half_in deaf) qs; log = log })
activated_there packages deaf now eid place d l log ps qs None is parts notes = absurd (cc)
activated_there packages deaf now eid place d l log ps qs (Some s) is parts notes =
    let new : qs ≡ halves_called ps place (half_activated packages s) = cc in
    let written : log ≡ halves_noted l now ps place (half_activated packages s) = cc in
    ap (λ n. Some n) (sym (calls_place deaf now eid place d l log ps qs (half_activated packages s) (λ h. half_after_activate packages h s) is (λ p. refl) new written))

pub activates_place : (packages : List PackageText) (deaf now eid place : ℕ) (d : Identity) (l log : LogOf) (ps qs : List (Half TimedOf))
    → Some place ≡ place_of (map (half_in 0) ps) eid
    → option_map (λ s. halves_called ps place (half_activated packages s)) (half_ready (slice_get ps place)) ≡ Some qs
    → option_map (λ s. halves_noted l now ps place (half_activated packages s)) (half_ready (slice_get ps place)) ≡ Some log
    → option_map {U = AgentOf} (λ s. agent_becomes (agent_of deaf d l ps) now eid (λ h. half_after_activate packages h s)) (ready_for (agent_of deaf d l ps) eid)
    ≡ Some (record { endpoint = d.endpoint; tid = d.tid; deaf = deaf; halves = map (half_in deaf) qs; log = log })
activates_place packages deaf now eid place d l log ps qs is parts notes =
    ap (option_map {U = AgentOf} (λ s. agent_becomes (agent_of deaf d l ps) now eid (λ h. half_after_activate packages h s))) (ready_there deaf eid place d l ps is)
    ∙ activated_there packages deaf now eid place d l log ps qs (half_ready (slice_get ps place)) is parts notes

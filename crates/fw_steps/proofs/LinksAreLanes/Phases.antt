-- A tick of the agent, all of whose halves do each part before the next begins, is a tick of each
-- half.
use Rattle.std.proofs.Common.{◌≡◌, ◌∙◌, ◌≤◌, ◌<◌, ◌-◌, ◌++◌, ◌∷◌, [], true, List, map, refl, ap, arith}
use Rattle.std.proofs.lemmas.Bool.{le-leb, lt-leb, ne_eqb}
use Rattle.std.proofs.lemmas.Grind.{flat_map-append}
use Rattle.pldm_exch.specs.Caller.{CallTickOf, caller_tick}
use Rattle.pldm_exch.specs.Sides.{asker_called}
use Rattle.fw_package.specs.Package.{PackageText}
use Rattle.ua_core.specs.Session.{TimedOf}
use Rattle.fw_node.specs.Agents.{again_packets, session_half_after, ended_packets, session_half_aged, silent_by, session_half_idle}
use Rattle.fw_node.specs.Cores.{session_core}
use Rattle.fw_node.specs.Halves.{CoreOf, HalfOf, half_with_older_ends, half_tick_by_row, half_ticks, half_with_ticked_core, last_part}
use Rattle.fw_node.specs.Packets.{all_packets, packets_of, sent_by}
use Rattle.fw_node.proofs.NodeTicks.{behind, last_behind}

by_call : (packages : List PackageText) (h : HalfOf TimedOf) (t : CallTickOf)
    → half_tick_by_row (session_core packages) (half_with_older_ends h) (asker_called (half_with_older_ends h).asker t)
    ≡ last_part (session_core packages) (half_with_ticked_core (session_core packages) (record (half_with_older_ends h) { core = silent_by t h.core packages })) (sent_by t)
by_call packages h CallTickOf.Nothing = refl
by_call packages h (CallTickOf.Send m) = refl
by_call packages h CallTickOf.GaveUp = refl

-- A half of the agent that hears after a tick: it grows older, waits, and ends the tick; the
-- message that it sends again comes first.
pub agent_half_ticks : (packages : List PackageText) (h : HalfOf TimedOf) → h.asker.deaf ≤ 1 → h.taker.deaf ≤ 1
    → half_ticks (session_core packages) true h
    ≡ behind (sent_by (caller_tick h.asker.caller).1) (last_part (session_core packages) (session_half_idle packages (session_half_aged packages h)) [])
agent_half_ticks packages h ask take =
    rw (le-leb h.asker.deaf 1 ask, le-leb h.taker.deaf 1 take) (by_call packages h (caller_tick h.asker.caller).1)
    ∙ last_behind (session_core packages) (session_half_idle packages (session_half_aged packages h)) (sent_by (caller_tick h.asker.caller).1)

pub agent_half_after : (packages : List PackageText) (h : HalfOf TimedOf) → h.asker.deaf ≤ 1 → h.taker.deaf ≤ 1
    → session_half_after packages (session_half_aged packages h) ≡ (half_ticks (session_core packages) true h).half
agent_half_after packages h ask take = rw (agent_half_ticks packages h ask take) refl

pub agent_half_sends : (packages : List PackageText) (h : HalfOf TimedOf) → h.asker.deaf ≤ 1 → h.taker.deaf ≤ 1
    → all_packets h.unit (half_ticks (session_core packages) true h).sent ≡ again_packets h ++ ended_packets packages (session_half_aged packages h)
agent_half_sends packages h ask take =
    ap (λ t. all_packets h.unit t.sent) (agent_half_ticks packages h ask take)
    ∙ flat_map-append (packets_of h.unit) (sent_by (caller_tick h.asker.caller).1) (last_part (session_core packages) (session_half_idle packages (session_half_aged packages h)) []).sent

-- all halves
abbrev pub AreSoon : List (HalfOf TimedOf) → Type 0
AreSoon [] = Unit {0}
AreSoon (h ∷ hs) = (h.asker.deaf ≤ 1) × (h.taker.deaf ≤ 1) × AreSoon hs

pub agent_halves_after : (packages : List PackageText) (hs : List (HalfOf TimedOf)) → AreSoon hs
    → map (session_half_after packages) (map (session_half_aged packages) hs) ≡ map (λ h. (half_ticks (session_core packages) true h).half) hs
agent_halves_after packages [] k = refl
agent_halves_after packages (h ∷ hs) k =
    ap (λ x. x ∷ map (session_half_after packages) (map (session_half_aged packages) hs)) (agent_half_after packages h k.0 k.1)
    ∙ ap (λ xs. (half_ticks (session_core packages) true h).half ∷ xs) (agent_halves_after packages hs k.2)

-- A half that is deaf after a tick sends nothing.
pub deaf_sends_nothing : {C : Type 0} (core : CoreOf C) (h : HalfOf C) → 1 < h.asker.deaf → (half_ticks core true h).sent ≡ []
deaf_sends_nothing core h deaf = rw (lt-leb h.asker.deaf 1 deaf, ne_eqb (h.asker.deaf - 1) 0 (λ z. absurd (omega (arith, deaf, z)))) refl

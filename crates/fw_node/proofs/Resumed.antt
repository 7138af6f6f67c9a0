-- What a restart of the agent keeps.
use Rattle.std.proofs.Common.{◌≡◌, ◌∙◌, ℕ, List, [], ◌∷◌, map, ap, refl, sym}
use Rattle.std.specs.List.{AllByRecursion}
use Rattle.fw_package.specs.Package.{PackageText}
use Rattle.mctp_wire.specs.declared.unit.Unit.{«Unit»}
use Rattle.pldm_exch.specs.Ends.{asker_new, taker_new}
use Rattle.ua_core.specs.Calls.{resumed_session}
use Rattle.ua_core.specs.Session.{TimedOf}
use Rattle.fw_node.specs.Cores.{session_core}
use Rattle.fw_node.specs.Halves.{HalfOf, half_restarts}
use Rattle.fw_node.specs.Resumed.{IsHalfIn, RestartsKeepNoMore, resumed_half, session_of_half}

-- a half after a restart, with a session in a network with this transmission unit
abbrev half_restarted_in : HalfOf TimedOf → «Unit» → HalfOf TimedOf
half_restarted_in h u =
    record h {
      core = resumed_session u h.core.session.number h.core.session.records;
      asker = asker_new h.own h.peer 40;
      taker = taker_new 40;
    }

half_keeps : (packages : List PackageText) (u : «Unit») (own : ℕ) (h : HalfOf TimedOf) → IsHalfIn u own h
    → half_restarts (session_core packages) (resumed_half u own (session_of_half h)) ≡ half_restarts (session_core packages) h
half_keeps packages u own h is = rw (sym is.unit, sym is.own) (ap (half_restarted_in h) (is.unit ∙ sym is.session))

halves_keep : (packages : List PackageText) (u : «Unit») (own : ℕ) (hs : List (HalfOf TimedOf)) → AllByRecursion (IsHalfIn u own) hs
    → map (half_restarts (session_core packages)) (map (resumed_half u own) (map session_of_half hs)) ≡ map (half_restarts (session_core packages)) hs
halves_keep packages u own [] are = refl
halves_keep packages u own (h ∷ hs) are = rw (half_keeps packages u own h are.0, halves_keep packages u own hs are.1) refl

pub restart_keeps : RestartsKeepNoMore
restart_keeps packages u n are = rw (halves_keep packages u n.endpoint.eid n.halves are) refl

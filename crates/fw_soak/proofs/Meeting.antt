-- A packet is given its fate.
use Rattle.std.proofs.Common.{◌≡◌, ◌∙◌, ℕ, Some, ap, refl, slice_get, subst, sym, true}
use Rattle.fw_soak.specs.Looks.{next_arrival}
use Rattle.fw_soak.specs.Turns.{MeetsIf, MeetsNext, MeetsPacket, SoakingOf, met_at, next_met}
use Rattle.fw_soak.specs.declared.traffic.Arrival.{Arrival}

-- there is a next packet
pub meets_next : (place met : ℕ) (p : Arrival) (a b : SoakingOf) → slice_get a.met place ≡ Some met → next_arrival a.course.world place met ≡ Some p → MeetsPacket p (met_at a place p.number) b
    → MeetsNext place a b true
meets_next place met p a b is next h =
    subst (λ o. MeetsIf place o a b true) (sym (ap (next_met a.course.world place) is ∙ next)) (h, refl)

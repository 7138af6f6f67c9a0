-- A process receives only packets that are timely (`rounds_are_timely`).
use Rattle.std.proofs.Common.{◌≡◌, ◌≤◌, ◌+◌, ◌-◌, ◌^◌, ◌++◌, ℕ, zero, suc, List, [], ◌∷◌, inl, inr, arith, refl}
use Rattle.std.proofs.lemmas.Bool.Decides.{leb_tells}
use Rattle.exch_lane.specs.Lanes.{Sent}
use Rattle.fw_process.specs.Processes.{Deed, RoundOf, deed_with, deeds_behind, deeds_for, deeds_for_all, deeds_to, round_deeds, rounds_deeds, turns, unit_after_deed, unit_after_deeds}
use Rattle.fw_serve.specs.Traced.{AreTimely, RoundsAreTimely}

timely_on : (u : ℕ) (ds es : List Deed) → AreTimely u ds → AreTimely (unit_after_deeds u ds) es → AreTimely u (ds ++ es)
timely_on u [] es h k = k
timely_on u (d ∷ ds) es h k = (h.0, timely_on (unit_after_deed u d) ds es h.1 k)

-- GOING ON

timely_turns : (u n : ℕ) → AreTimely u (turns n)
timely_turns u zero = tt
timely_turns u (suc n) = (tt, timely_turns (u + 1) n)

turned : (u n : ℕ) → unit_after_deeds u (turns n) ≡ u + n
turned u zero = omega arith
turned u (suc n) = let rest = turned (u + 1) n in omega (arith, rest)

timely_behind : (u n : ℕ) → AreTimely u (deeds_behind n)
timely_behind u n = elim (leb_tells n 40) [ inl few ↦ rw few.0 (timely_turns u n) | inr many ↦ rw many.0 (tt, tt) ]

went_on : (u n : ℕ) → unit_after_deeds u (deeds_behind n) ≡ u + n
went_on u n = elim (leb_tells n 40) [ inl few ↦ rw few.0 (turned u n) | inr many ↦ rw many.0 refl ]

reached : (u to : ℕ) → to ≤ unit_after_deeds u (deeds_to u to)
reached u to = let is = went_on u (to - u) in omega (arith, is)

-- PACKETS

timely_with : (u : ℕ) (p : Sent) → p.date ≤ u → AreTimely u (deed_with u p ∷ [])
timely_with u p there = elim (leb_tells (u - p.date) 8) [
  | inl lives ↦ rw lives.0 (record { no_later = there; living = (let few = lives.1 in omega (arith, few)) }, tt)
  | inr dead ↦ rw dead.0 (tt, tt)
]

timely_for : (u : ℕ) (p : Sent) → AreTimely u (deeds_for u p)
timely_for u p = elim (leb_tells p.date (u + 2 ^ 20)) [
  | inl near ↦
      rw near.0
      (timely_on u (deeds_to u p.date) (deed_with (unit_after_deeds u (deeds_to u p.date)) p ∷ []) (timely_behind u (p.date - u))
      (timely_with (unit_after_deeds u (deeds_to u p.date)) p (reached u p.date)))
  | inr far ↦ rw far.0 (tt, tt)
]

timely_for_all : (u : ℕ) (ps : List Sent) → AreTimely u (deeds_for_all u ps)
timely_for_all u [] = tt
timely_for_all u (p ∷ ps) = timely_on u (deeds_for u p) (deeds_for_all (unit_after_deeds u (deeds_for u p)) ps) (timely_for u p) (timely_for_all (unit_after_deeds u (deeds_for u p)) ps)

timely_round : (u : ℕ) (r : RoundOf) → AreTimely u (round_deeds u r)
timely_round u r =
    timely_on u (deeds_to u r.shown) (deeds_for_all (unit_after_deeds u (deeds_to u r.shown)) r.came) (timely_behind u (r.shown - u))
    (timely_for_all (unit_after_deeds u (deeds_to u r.shown)) r.came)

pub rounds_are_timely : RoundsAreTimely
rounds_are_timely u [] = tt
rounds_are_timely u (r ∷ rs) =
    timely_on u (round_deeds u r) (rounds_deeds (unit_after_deeds u (round_deeds u r)) rs) (timely_round u r) (rounds_are_timely (unit_after_deeds u (round_deeds u r)) rs)

-- The units that pass while an end counts ticks. Only this file uses the clocks.
use Rattle.std.proofs.Common.{◌≡◌, ◌+◌, ◌*◌, ◌≤◌, ℕ, Bool, true, false, if◌then◌else◌, nat_lt, List, [], ◌∷◌, length, arith, inl, inr}
use Rattle.std.proofs.lemmas.Bool.{cases_lt, eqb-true, le-ltb, lt-ltb}
use Rattle.exch_lane.specs.Clocks.{AreAllowed, Clock, ClocksStay, IsClock, MayBeat, TicksAreLate, TimeIsLate, TimeIsMissed, TimeStarts, clock_after_unit, counted_ticks, HasElapsedAtMost, since_after, since_all}

risen : (n : ℕ) → n ≤ 8 → ((if nat_lt n 8 then n + 1 else 8) ≤ 8)
risen n le = elim (cases_lt n 8) [ inl lt ↦ rw (lt-ltb n 8 lt) (omega arith) | inr ge ↦ rw (le-ltb n 8 ge) (omega arith) ]

risen_by_one : (n : ℕ) → ((if nat_lt n 8 then n + 1 else 8) ≤ n + 1)
risen_by_one n = elim (cases_lt n 8) [ inl lt ↦ rw (lt-ltb n 8 lt) (omega arith) | inr ge ↦ rw (le-ltb n 8 ge) (omega arith) ]

missed_at : (c : Clock) → MayBeat false c → c.since_miss ≡ 8
missed_at c may = eqb-true c.since_miss 8 may

pub beat_clock : ClocksStay
beat_clock true c h may = risen c.since_miss h
beat_clock false c h may = omega arith

pub time_starts : TimeStarts
unfolding HasElapsedAtMost
time_starts c date ok h = omega arith

pub elapsed_start : (c : Clock) (date : ℕ) → IsClock c → c.now ≤ date → HasElapsedAtMost c date 0
elapsed_start = time_starts

pub elapsed_counted : (c : Clock) (date count : ℕ) → MayBeat true c → HasElapsedAtMost c date count → HasElapsedAtMost (clock_after_unit true c) date (count + 1)
unfolding HasElapsedAtMost
elapsed_counted c date count may h = let r = risen_by_one c.since_miss in omega arith

pub elapsed_missed : TimeIsMissed
unfolding HasElapsedAtMost
elapsed_missed c date count may h = let full = missed_at c may in omega arith

pub elapsed_later : (c : Clock) (date later count : ℕ) → date ≤ later → HasElapsedAtMost c date count → HasElapsedAtMost c later count
unfolding HasElapsedAtMost
elapsed_later c date later count le h = omega arith

pub elapsed_late : TimeIsLate
unfolding HasElapsedAtMost
elapsed_late c date count h = omega arith

pub within_assembly : (c : Clock) (date count : ℕ) → HasElapsedAtMost c date count → count ≤ 9 → c.now ≤ date + 11
unfolding HasElapsedAtMost
within_assembly c date count h le = omega arith

pub within_repeats : (c : Clock) (date count : ℕ) → HasElapsedAtMost c date count → count ≤ 12 → c.now ≤ date + 14
unfolding HasElapsedAtMost
within_repeats c date count h le = omega arith

pub within_keeping : (c : Clock) (date count : ℕ) → HasElapsedAtMost c date count → count ≤ 25 → c.now ≤ date + 29
unfolding HasElapsedAtMost
within_keeping c date count h le = omega arith

-- a new clock
pub clock_new : IsClock (record { now = 0; since_miss = 8 })
clock_new = omega arith

-- eight times the units are at most nine times the ticks, and the count since a miss at first
ninths : (bs : List Bool) (n : ℕ) → n ≤ 8 → AreAllowed bs n → 8 * length bs + since_all bs n ≤ 9 * counted_ticks bs + n
ninths [] n le k = omega arith
ninths (true ∷ bs) n le k =
    let rest = ninths bs (since_after true n) (risen n le) k.1 in
    let more = risen_by_one n in
    omega arith
ninths (false ∷ bs) n le k =
    let rest = ninths bs 0 (omega arith) k.1 in
    let full = eqb-true n 8 k.0 in
    omega arith

fewer : (bs : List Bool) → counted_ticks bs ≤ length bs
fewer [] = omega arith
fewer (true ∷ bs) = let rest = fewer bs in omega arith
fewer (false ∷ bs) = let rest = fewer bs in omega arith

pub ticks_late : TicksAreLate
ticks_late bs n le k =
    let most = ninths bs n le k in
    (fewer bs, omega arith)

-- A tick of a lane.
use Rattle.std.proofs.Common.{◌≡◌, ◌+◌, ◌-◌, ◌%◌, ◌≤◌, ◌==◌, Bool, true, false, Option, Some, None, IfSome, IsSomeAnd, is_some, inl, inr, refl, sym, ap}
use Rattle.std.proofs.lemmas.Bool.{cases_lt, le-leb, lt-leb}
use Rattle.pldm_exch.specs.Caller.{IsOpen, Open, sends_at, caller_tick_for}
use Rattle.exch_lane.specs.Cells.{cell_ticks}
use Rattle.exch_lane.specs.Clocks.{MayBeat}
use Rattle.exch_lane.specs.Lanes.{LaneOf, asker_clock, taker_clock}
use Rattle.pldm_exch.specs.Sides.{asker_called, asker_tick}
use Rattle.exch_lane.specs.Steps.{asker_tick_in, lane_after_tick}
use Rattle.exch_lane.proofs.Begins.{tag_low}
use Rattle.exch_lane.proofs.Below.{Laws}
use Rattle.exch_lane.proofs.Facts.{bool_cases}
use Rattle.exch_lane.proofs.Ghosts.{Ghost, GoesOn, IsAskedOf, IsOpenOf, LaneGood, ends_of, run_of}
use Rattle.exch_lane.proofs.Hearing.{gives_up, older_caller, older_waits, rested_waits}
use Rattle.exch_lane.proofs.Quiets.{deaf_waits, heard_tick, missed_waits, rested_caller}
use Rattle.exch_lane.proofs.Resends.{resends}
use Rattle.exch_lane.proofs.Views.{Exchange}
use Rattle.exch_lane.proofs.Waits.{TicksRow, goes_wait}

-- the effect of its caller's tick on an asker that isn't deaf
abbrev pub CallsRow : LaneOf → Ghost → Bool → Option Open → Type 0
CallsRow w g taker o = TicksRow w g true taker (asker_called (heard_tick w (caller_tick_for w.asker.caller o).0) (caller_tick_for w.asker.caller o).1)

due_from : (l : Laws) (w : LaneOf) (g : Ghost) (taker : Bool) (o : Open) (exchange : Option Exchange) → g.exchanges o.tag ≡ exchange
    → IsSomeAnd exchange (IsOpenOf (asker_clock w) (ends_of w o.tag) o) → MayBeat true (asker_clock w) → MayBeat taker (taker_clock w)
    → w.asker.caller.asked ≡ Some o → IsAskedOf w g o → IsOpen w.asker.caller o → sends_at (o.age + 1) ≡ true → LaneGood w g → CallsRow w g taker (Some o)
due_from l w g taker o None there of may allowed is k open_is due h = absurd of
due_from l w g taker o (Some e) there of may allowed is k open_is due h =
    rw due (resends l w g taker o e may allowed (record { asked = is; hears = k.hears; current = k.current; is = there; of = of; due = due; low = rw open_is.tag (tag_low ((w.asker.caller.number + 31) % 32)) }) h)

calls_open : (l : Laws) (w : LaneOf) (g : Ghost) (taker : Bool) (o : Open) → MayBeat true (asker_clock w) → MayBeat taker (taker_clock w)
    → w.asker.caller.asked ≡ Some o → IsAskedOf w g o → IsOpen w.asker.caller o → LaneGood w g → CallsRow w g taker (Some o)
calls_open l w g taker o may allowed is k open_is h = elim (bool_cases (sends_at (o.age + 1))) [
  | inl due ↦ due_from l w g taker o (g.exchanges o.tag) refl k.of may allowed is k open_is due h
  | inr other ↦ elim (bool_cases (o.age + 1 == 18)) [
    | inl over ↦ rw (other, over) (gives_up l w g taker o may allowed is k open_is other over h)
    | inr more ↦ rw (other, more) (goes_wait w g true taker (heard_tick w (older_caller w.asker.caller o)) may allowed h.body (older_waits l w g o may is k other more h) (sym (ap is_some is)))
  ]
]

calls_from : (l : Laws) (w : LaneOf) (g : Ghost) (taker : Bool) (o : Option Open) → w.asker.deaf ≤ 1 → MayBeat true (asker_clock w)
    → MayBeat taker (taker_clock w) → w.asker.caller.asked ≡ o → IfSome o (IsAskedOf w g) → IfSome o (IsOpen w.asker.caller) → LaneGood w g
    → CallsRow w g taker o
calls_from l w g taker None less may allowed is k open_is h = goes_wait w g true taker (heard_tick w (rested_caller w.asker.caller)) may allowed h.body (rested_waits l w g less is h) refl
calls_from l w g taker (Some o) less may allowed is k open_is h = calls_open l w g taker o may allowed is k open_is h

-- a tick that the asker counts, or misses
ticks_row : (l : Laws) (w : LaneOf) (g : Ghost) (asker taker : Bool) → MayBeat asker (asker_clock w) → MayBeat taker (taker_clock w) → LaneGood w g
    → TicksRow w g asker taker (asker_tick asker w.asker)
ticks_row l w g false taker may allowed h = goes_wait w g false taker w.asker may allowed h.body (missed_waits w g may h) refl
ticks_row l w g true taker may allowed h = elim (cases_lt 1 w.asker.deaf) [
  | inl more ↦ rw (lt-leb w.asker.deaf 1 more) (goes_wait w g true taker (record w.asker { deaf = w.asker.deaf - 1 }) may allowed h.body (deaf_waits w g more h) refl)
  | inr less ↦ rw (le-leb w.asker.deaf 1 less) (calls_from l w g taker w.asker.caller.asked less may allowed refl h.body.asked h.body.caller.asked h)
]

pub goes_tick : (l : Laws) (w : LaneOf) (g : Ghost) (asker taker : Bool) → MayBeat asker (asker_clock w) → MayBeat taker (taker_clock w)
    → LaneGood w g → GoesOn (lane_after_tick w asker taker) (cell_ticks (asker_tick_in w asker taker) (run_of w g))
goes_tick l w g asker taker may allowed h = ticks_row l w g asker taker may allowed h

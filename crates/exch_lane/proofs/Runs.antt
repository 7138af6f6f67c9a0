-- Lane refinement: a new lane is an empty cell, each step keeps the invariant, and so does every
-- list of steps.
use Rattle.std.proofs.Common.{◌≡◌, ◌≢◌, ◌≤◌, ◌∙◌, ◌-◌, ◌^◌, ◌&&◌, ℕ, nat_lt, Bool, if◌then◌else◌, length, true, false, List, [], ◌∷◌, Option, Some, None, IfSome, IsSomeAnd, is_some, refl, sym, subst, arith}
use Rattle.std.proofs.lemmas.Bool.{le-ltb}
use Rattle.mctp_wire.specs.declared.unit.Unit.{«Unit»}
use Rattle.pldm_base.specs.Limits.{reply_limit}
use Rattle.exch_lane.specs.declared.step.LaneFault.{LaneFault}
use Rattle.std.specs.Option.{option_map}
use Rattle.pldm_exch.specs.Caller.{Open, request_of_open}
use Rattle.exch_lane.specs.Cells.{cell_along, cells_along}
use Rattle.exch_lane.specs.Clocks.{Clock, MayBeat, may_beat}
use Rattle.exch_lane.specs.Lanes.{LaneOf, LaneStepOf, asker_clock, lane_new, taker_clock}
use Rattle.exch_lane.specs.Laws.{IsCellOf, LaneIsACell, awaited_request}
use Rattle.exch_lane.specs.Steps.{MayRun, MayTake, lane_after, lane_run, may_step}
use Rattle.exch_lane.specs.declared.step.End.TheVariants as ends
use Rattle.exch_lane.specs.declared.step.LaneFault.TheVariants as faults
use Rattle.exch_lane.proofs.Begins.{goes_begin}
use Rattle.exch_lane.proofs.Below.{Laws}
use Rattle.exch_lane.proofs.Delivers.{goes_deliver}
use Rattle.exch_lane.proofs.Elapsed.{clock_new}
use Rattle.exch_lane.proofs.Facts.{both, may_of, none_is}
use Rattle.exch_lane.proofs.Ghosts.{Ghost, GoesOn, IsAskedOf, IsOpenOf, LaneGood, cell_from, cell_with, ends_of, exchange_at, run_of}
use Rattle.exch_lane.proofs.Lifts.{nothing_held_at, nothing_kept_at}
use Rattle.exch_lane.proofs.Mine.{of_lane}
use Rattle.exch_lane.proofs.Restarts.{goes_abandon, goes_restart_asker, goes_restart_taker}
use Rattle.exch_lane.proofs.Ticks.{goes_tick}
use Rattle.exch_lane.proofs.Views.{Ends, Exchange}

-- a new lane has an empty ghost state
abbrev pub ghost_new : Ghost
ghost_new = record { exchanges = λ t. None; current = None }

new_good : (l : Laws) (u : «Unit») (asker taker : ℕ) → asker ≢ taker → LaneGood (lane_new u asker taker) ghost_new
new_good l u asker taker differ = record {
  body = record {
    differ = differ;
    own = refl;
    peer = refl;
    replies = refl;
    kept = refl;
    requests = refl;
    asker_time = clock_new;
    taker_time = clock_new;
    caller = l.callers.first asker taker;
    tags = λ t lt. (nothing_held_at t lt, nothing_held_at t lt, nothing_kept_at t lt);
    packets = tt;
    asked = tt;
    current = tt;
    deaf = λ z. absurd (omega (arith, z));
  };
  last = λ _. tt;
  quiet = λ _. refl;
}

-- a tick that may be taken is allowed by both ends' clocks
ticks_beat : (w : LaneOf) (asker taker : Bool) → may_step w (LaneStepOf.Tick asker taker) ≡ None → MayBeat asker (asker_clock w) × MayBeat taker (taker_clock w)
ticks_beat w asker taker may =
    let ends = may_beat asker w.asker_since_miss && may_beat taker w.taker_since_miss in
    let all = both (nat_lt w.now (2 ^ 32 - 1)) ends (may_of (nat_lt w.now (2 ^ 32 - 1) && ends) faults.NotNow may) in
    both (may_beat asker w.asker_since_miss) (may_beat taker w.taker_since_miss) all.1

-- a size within its limit gives no fault
short_enough : (limit size : ℕ) (o : Option LaneFault) → size ≤ limit → (if nat_lt limit size then Some faults.NotNow else o) ≡ None → o ≡ None
short_enough limit size o le h = rw (le-ltb limit size le) at h

-- each step keeps the invariant
step_goes : (l : Laws) (w : LaneOf) (g : Ghost) (s : LaneStepOf) → MayTake w s → LaneGood w g → GoesOn (lane_after w s) (cell_along w s (run_of w g))
step_goes l w g (LaneStepOf.Begin command body) may h = goes_begin l w g command body may.lawful (short_enough (reply_limit w.unit) (length body) _ may.lawful may.may) h
step_goes l w g LaneStepOf.Abandon may h = goes_abandon l w g may.may h
step_goes l w g (LaneStepOf.Deliver number end reply) may h = goes_deliver l w g number end reply (short_enough (reply_limit w.unit) (length reply) _ may.lawful may.may) may.lawful h
step_goes l w g (LaneStepOf.Tick asker taker) may h =
    let beats = ticks_beat w asker taker may.may in
    goes_tick l w g asker taker beats.0 beats.1 h
step_goes l w g (LaneStepOf.Restart ends.Asker) may h = goes_restart_asker l w g h
step_goes l w g (LaneStepOf.Restart ends.Taker) may h = goes_restart_taker w g h

-- the cell's awaited request is the open request
waits_with : (e : Exchange) (r : Option (List ℕ)) → awaited_request (cell_with e true r) ≡ Some (e.command, e.body)
waits_with e None = refl
waits_with e (Some r) = refl

closed_waits : (e : Exchange) (r : Option (List ℕ)) → awaited_request (cell_with e false r) ≡ None
closed_waits e None = refl
closed_waits e (Some r) = refl

none_waits : (e : Option Exchange) → awaited_request (cell_from false e) ≡ None
none_waits None = refl
none_waits (Some e) = closed_waits e e.reply

some_waits : (c : Clock) (x : Ends) (o : Open) (e : Option Exchange) → IsSomeAnd e (IsOpenOf c x o) → awaited_request (cell_from true e) ≡ Some (request_of_open o)
some_waits c x o None is = absurd is
some_waits c x o (Some e) is = waits_with e e.reply ∙ rw (is.command, is.message) refl

waits_of : (w : LaneOf) (g : Ghost) (o : Option Open) → IfSome o (IsAskedOf w g)
    → awaited_request (cell_from (is_some o) (exchange_at g.exchanges g.current)) ≡ option_map request_of_open o
waits_of w g None is = none_waits (exchange_at g.exchanges g.current)
waits_of w g (Some o) is = rw is.current (some_waits (asker_clock w) (ends_of w o.tag) o (g.exchanges o.tag) is.of)

-- a lane with the invariant has its cell
cell_of_good : (l : Laws) (w : LaneOf) (g : Ghost) → LaneGood w g → IsCellOf w (run_of w g)
cell_of_good l w g h = record {
  packets = of_lane l w g h;
  entries = refl;
  quiet = λ hears quiet. let none : g.current ≡ None = none_is g.current (sym (h.quiet hears) ∙ quiet) in rw none refl;
  waits = waits_of w g w.asker.caller.asked h.body.asked;
}

-- every list of steps keeps the invariant
run_goes : (l : Laws) (w : LaneOf) (g : Ghost) (ss : List LaneStepOf) → MayRun w ss → LaneGood w g
    → IsSomeAnd (cells_along w ss (Some (run_of w g))) (IsCellOf (lane_run w ss))
run_goes l w g [] may h = cell_of_good l w g h
run_goes l w g (s ∷ ss) may h =
    let next = step_goes l w g s may.0 h in
    subst (λ run. IsSomeAnd (cells_along (lane_after w s) ss run) (IsCellOf (lane_run (lane_after w s) ss))) (sym next.runs) (run_goes l (lane_after w s) next.ghost ss may.1 next.good)

pub lane_refinement : Laws → LaneIsACell
lane_refinement l u asker taker steps ends_are may = run_goes l (lane_new u asker taker) ghost_new steps may (new_good l u asker taker ends_are.differ)

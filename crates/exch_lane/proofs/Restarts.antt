-- The steps that send nothing and deliver nothing: an open request is given up, an end restarts.
use Rattle.std.proofs.Common.{◌≡◌, ◌==◌, ℕ, true, false, if◌then◌else◌, List, Option, Some, None, IfSome, is_some, refl, sym, ap, arith}
use Rattle.std.proofs.lemmas.Bool.{ne_eqb}
use Rattle.pldm_exch.specs.Caller.{CallerState, IsOpen, Open, last_tag, rest_at}
use Rattle.pldm_exch.specs.Laws.{CallerStep}
use Rattle.exch_lane.specs.Cells.{Cell, CellRun, cell_close, cell_closes_if, close_in, drop_in, is_empty_cell}
use Rattle.exch_lane.specs.Lanes.{LaneOf}
use Rattle.exch_lane.specs.Steps.{lane_after_abandon, lane_after_restart}
use Rattle.exch_lane.specs.declared.step.End.TheVariants as ends
use Rattle.exch_lane.specs.declared.step.LaneFault.TheVariants as faults
use Rattle.exch_lane.proofs.Below.{Laws}
use Rattle.exch_lane.proofs.Ghosts.{Ghost, GoesOn, IsAskedOf, IsCurrent, LaneGood, cell_from, cell_with, run_of, view_of}
use Rattle.exch_lane.proofs.Lifts.{no_rest, nothing_held_at, nothing_kept_at}
use Rattle.exch_lane.proofs.Tags.{view_asker_restarts, view_taker_restarts}
use Rattle.exch_lane.proofs.Views.{Exchange}

-- a cell that is closed, and one that is dropped
closes_with : (run : CellRun) (e : Exchange) (reply : Option (List ℕ)) → close_in run (cell_with e true reply) ≡ Some (record run { cell = cell_with e false reply })
closes_with run e None = refl
closes_with run e (Some r) = refl

pub cell_closes : (run : CellRun) (o : Option Exchange) → is_some o ≡ true → close_in run (cell_from true o) ≡ Some (record run { cell = cell_from false o })
cell_closes run None some = absurd (cc)
cell_closes run (Some e) some = closes_with run e e.reply

drops_with : (run : CellRun) (e : Exchange) (reply : Option (List ℕ))
    → (if is_empty_cell (cell_with e false reply) then Some run else drop_in run (cell_with e false reply)) ≡ Some (record run { cell = Cell.Empty })
drops_with run e None = refl
drops_with run e (Some r) = refl

pub cell_drops : (run : CellRun) (e : Exchange)
    → (if is_empty_cell (cell_from false (Some e)) then Some run else drop_in run (cell_from false (Some e))) ≡ Some (record run { cell = Cell.Empty })
cell_drops run e = drops_with run e e.reply

-- the tag of an open request rests, so its caller isn't quiet
pub rests_on : (c : CallerState) (o : Open) → IsOpen c o → (rest_at c (last_tag c) == 0) ≡ false
rests_on c o h =
    let rest = h.rest in
    let same : rest_at c (last_tag c) ≡ rest_at c o.tag = ap (rest_at c) (sym h.tag) in
    ne_eqb (rest_at c (last_tag c)) 0 (λ z. absurd (omega (arith, rest, same, z)))

pub there_at : (g : Ghost) (tag : ℕ) → g.current ≡ Some tag → IfSome g.current (IsCurrent g) → is_some (g.exchanges tag) ≡ true
there_at g tag is h = let k = rw is at h in k.there

-- the open request is given up
abandons_open : (l : Laws) (w : LaneOf) (g : Ghost) (o : Open) → w.asker.caller.asked ≡ Some o → IsAskedOf w g o → IsOpen w.asker.caller o
    → LaneGood w g → GoesOn (lane_after_abandon w) (cell_close (run_of w g))
abandons_open l w g o is k open_is h = record {
  ghost = g;
  good = record {
    body = record {
      differ = h.body.differ;
      own = h.body.own;
      peer = h.body.peer;
      replies = h.body.replies;
      kept = h.body.kept;
      requests = h.body.requests;
      asker_time = h.body.asker_time;
      taker_time = h.body.taker_time;
      caller = l.callers.after w.asker.caller CallerStep.Abandon h.body.caller;
      tags = h.body.tags;
      packets = h.body.packets;
      asked = tt;
      current = h.body.current;
      deaf = λ z. absurd (omega (arith, z, k.hears));
    };
    last = h.last;
    quiet = λ _. rw (open_is.unanswered, rests_on w.asker.caller o open_is, k.current) refl;
  };
  runs = rw (is, k.current) (cell_closes (record { cell = cell_from true (g.exchanges o.tag); entries = w.entries }) (g.exchanges o.tag) (there_at g o.tag k.current h.body.current));
}

abandons_from : (l : Laws) (w : LaneOf) (g : Ghost) (o : Option Open) → w.asker.caller.asked ≡ o
    → (if is_some o then None else Some faults.NotNow) ≡ None → IfSome o (IsAskedOf w g) → IfSome o (IsOpen w.asker.caller) → LaneGood w g
    → GoesOn (lane_after_abandon w) (cell_close (run_of w g))
abandons_from l w g None is may k open_is h = absurd (cc)
abandons_from l w g (Some o) is may k open_is h = abandons_open l w g o is k open_is h

pub goes_abandon : (l : Laws) (w : LaneOf) (g : Ghost) → (if is_some w.asker.caller.asked then None else Some faults.NotNow) ≡ None → LaneGood w g
    → GoesOn (lane_after_abandon w) (cell_close (run_of w g))
goes_abandon l w g may h = abandons_from l w g w.asker.caller.asked refl may h.body.asked h.body.caller.asked h

-- the asker restarts
asker_restarted : (l : Laws) (w : LaneOf) (g : Ghost) → LaneGood w g → LaneGood (lane_after_restart w ends.Asker) g
asker_restarted l w g h = record {
  body = record {
    differ = h.body.differ;
    own = refl;
    peer = refl;
    replies = refl;
    kept = h.body.kept;
    requests = h.body.requests;
    asker_time = h.body.asker_time;
    taker_time = h.body.taker_time;
    caller = l.callers.first w.asker_eid w.taker_eid;
    tags = λ t lt. rw (no_rest w.asker_eid w.taker_eid t lt, nothing_held_at t lt) (view_asker_restarts (g.exchanges t) (view_of w g.current t) (h.body.tags t lt));
    packets = h.body.packets;
    asked = tt;
    current = h.body.current;
    deaf = λ _. refl;
  };
  last = λ z. absurd (omega (arith, z));
  quiet = λ z. absurd (omega (arith, z));
}

closes_if : (w : LaneOf) (g : Ghost) (o : Option Open) → w.asker.caller.asked ≡ o → IfSome o (IsAskedOf w g) → LaneGood w g
    → cell_closes_if (is_some w.asker.caller.asked) (run_of w g) ≡ Some (run_of (lane_after_restart w ends.Asker) g)
closes_if w g None is k h = rw is refl
closes_if w g (Some o) is k h = rw (is, k.current) (cell_closes (record { cell = cell_from true (g.exchanges o.tag); entries = w.entries }) (g.exchanges o.tag) (there_at g o.tag k.current h.body.current))

pub goes_restart_asker : (l : Laws) (w : LaneOf) (g : Ghost) → LaneGood w g → GoesOn (lane_after_restart w ends.Asker) (cell_closes_if (is_some w.asker.caller.asked) (run_of w g))
goes_restart_asker l w g h = record { ghost = g; good = asker_restarted l w g h; runs = closes_if w g w.asker.caller.asked refl h.body.asked h }

-- the taker restarts
pub goes_restart_taker : (w : LaneOf) (g : Ghost) → LaneGood w g → GoesOn (lane_after_restart w ends.Taker) (Some (run_of w g))
goes_restart_taker w g h = record {
  ghost = g;
  good = record {
    body = record {
      differ = h.body.differ;
      own = h.body.own;
      peer = h.body.peer;
      replies = h.body.replies;
      kept = refl;
      requests = refl;
      asker_time = h.body.asker_time;
      taker_time = h.body.taker_time;
      caller = h.body.caller;
      tags = λ t lt. rw (nothing_kept_at t lt, nothing_held_at t lt) (view_taker_restarts (g.exchanges t) (view_of w g.current t) (h.body.tags t lt));
      packets = h.body.packets;
      asked = h.body.asked;
      current = h.body.current;
      deaf = h.body.deaf;
    };
    last = h.last;
    quiet = h.quiet;
  };
  runs = refl;
}

use Rattle.std.proofs.Common.{arith, take}
use Rattle.exch_lane.specs.Lanes.{lane_steps_of}
use Rattle.exch_lane.proofs.Keeping.{keeps, ran_all}
use Rattle.exch_lane.proofs.Running.{ran_next}
use Rattle.exch_lane.proofs.replay.lane_replay.Goals as goal

pub loop-number-preserved : goal.loop-number-preserved
loop-number-preserved c =
    ran_next c.args.lane.now c.loop-number.lane c.step.new.self c.args.steps.now c.loop-number.number
    c.index-steps-number.result c.loop-number-test.true c.index-steps-number.is c.loop-number.invariant
    c.in_default.ensures.ok.0 c.in_default.ensures.ok.1

pub returns-in-Err-clause-cell_so_far : goal.returns-in-Err-clause-cell_so_far
returns-in-Err-clause-cell_so_far c =
    rw c.in-Err.ensures.err (keeps c.lane_is_a_cell.ensures.law c.args.lane.now c.loop-number.lane (lane_steps_of (take c.loop-number.number c.args.steps.now)) c.loop-number.invariant)

pub returns-clause-cell : goal.returns-clause-cell
returns-clause-cell c =
    keeps c.lane_is_a_cell.ensures.law c.args.lane.now c.loop-number.lane (lane_steps_of c.args.steps.now) (ran_all c.args.lane.now c.loop-number.lane c.args.steps.now c.loop-number.number (omega arith) c.loop-number.invariant)

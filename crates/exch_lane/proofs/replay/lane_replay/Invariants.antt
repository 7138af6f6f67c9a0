use Rattle.std.proofs.Common.{take}
use Rattle.exch_lane.specs.Lanes.{lane_steps_of}
use Rattle.exch_lane.proofs.Running.{Ran}
use Rattle.exch_lane.proofs.replay.lane_replay.Given as goal

-- the steps so far are taken
abbrev pub invariant-loop-number : goal.invariant-loop-number
invariant-loop-number l = Ran l.fn.lane (lane_steps_of (take l.number l.steps)) l.lane

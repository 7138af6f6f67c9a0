use Rattle.std.proofs.Common.{◌≡◌, length}
use Rattle.fw_script.specs.Schedules.{has_twice}
use Rattle.fw_script.proofs.schedule.has_twice.Given as goal

-- the remaining identifiers decide
abbrev pub invariant-loop-left : goal.invariant-loop-left
invariant-loop-left l = has_twice l.fn.eids ≡ has_twice l.left

abbrev pub decreases-loop-left : goal.decreases-loop-left
decreases-loop-left l = length l.left

use Rattle.std.proofs.Common.{◌-◌, length}
use Rattle.fw_steps.specs.Dead.{AreDead}
use Rattle.fw_steps.proofs.dead.first_dead.Given as goal

-- the packets so far are dead
abbrev pub invariant-loop-count : goal.invariant-loop-count
invariant-loop-count l = AreDead l.now l.count l.packets

abbrev pub decreases-loop-count : goal.decreases-loop-count
decreases-loop-count l = length l.packets - l.count

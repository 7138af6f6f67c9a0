use Rattle.std.proofs.Common.{take}
use Rattle.fw_steps.specs.Steps.{Run}
use Rattle.fw_world.proofs.replays.take_all.Given as goal

-- the steps so far are taken
abbrev pub invariant-loop-i : goal.invariant-loop-i
invariant-loop-i g l = Run l.fn.world (take l.i l.steps) l.world

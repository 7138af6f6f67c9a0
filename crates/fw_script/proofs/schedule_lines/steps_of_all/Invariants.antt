use Rattle.std.proofs.Common.{◌≡◌}
use Rattle.fw_script.specs.ScheduleLines.{all_steps}
use Rattle.fw_script.proofs.schedule_lines.steps_of_all.Given as goal

-- the steps of the lines so far
abbrev pub invariant-loop-line : goal.invariant-loop-line
invariant-loop-line l = l.steps.items ≡ all_steps l.yielded

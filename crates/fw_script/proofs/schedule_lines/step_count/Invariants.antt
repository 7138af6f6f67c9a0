use Rattle.std.proofs.Common.{◌≡◌, length, take}
use Rattle.fw_script.specs.ScheduleLines.{all_steps}
use Rattle.fw_script.proofs.schedule_lines.step_count.Given as goal

-- the steps of the lines so far
abbrev pub invariant-loop-line : goal.invariant-loop-line
invariant-loop-line l = l.count ≡ length (all_steps (take l.line-index l.lines))

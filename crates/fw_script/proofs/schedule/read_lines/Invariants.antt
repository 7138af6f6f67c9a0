use Rattle.std.proofs.Common.{◌≡◌, ◌+◌, ◌≤◌, length}
use Rattle.fw_script.specs.Lines.{lines_of}
use Rattle.fw_script.specs.ScheduleLines.{all_steps}
use Rattle.fw_script.specs.Schedules.{steps_then, script_from, script_of}
use Rattle.fw_script.proofs.schedule.read_lines.Given as goal

-- the steps so far, then those of the remaining lines, are those of all
abbrev pub invariant-loop-rest : goal.invariant-loop-rest
invariant-loop-rest l = record {
  counted : l.line + length l.rest ≤ length l.text;
  read : steps_then (all_steps l.lines.items) (script_from (l.line + 1) (lines_of l.rest)) ≡ script_of l.text;
}

abbrev pub decreases-loop-rest : goal.decreases-loop-rest
decreases-loop-rest l = length l.rest

use Rattle.std.proofs.Common.{◌≡◌, length}
use Rattle.fw_script.specs.ScheduleLines.{all_steps}
use Rattle.fw_script.proofs.schedule_lines.LineSteps.next.Given as goal

-- the lines so far have no steps
abbrev pub invariant-loop-self : goal.invariant-loop-self
invariant-loop-self l = record {
  none : l.self-inside.ticks ≡ 0;
  same : all_steps l.self-inside.lines.now ≡ l.fn.self;
}

abbrev pub decreases-loop-self : goal.decreases-loop-self
decreases-loop-self l = length l.self-inside.lines.now

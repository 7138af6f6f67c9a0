use Rattle.std.proofs.Common.{◌≡◌, ◌++◌, drop}
use Rattle.fw_script.specs.ScheduleTexts.{idle_at, text_of_steps}
use Rattle.fw_script.proofs.schedule_text.ScheduleText.push_all.Given as goal

-- the text so far, then that of the remaining steps, is that of all
abbrev pub invariant-loop-step : goal.invariant-loop-step
invariant-loop-step l = record {
  written : l.text.items ++ text_of_steps l.self (drop l.step-index l.steps) ≡ l.fn.text.items ++ text_of_steps l.fn.self l.steps;
  held : idle_at l.self (drop l.step-index l.steps) ≡ idle_at l.fn.self l.steps;
}

-- The content of a schedule's lines.
use Rattle.std.specs.Prelude.{◌++◌, ◌∷◌, [], List, None, Option, Some}
use Rattle.std.specs.List.{flat_map, repeat}
use Rattle.fw_steps.specs.Worlds.{full_tick}
use Rattle.fw_steps.specs.declared.step.Step.{Step}
use Rattle.fw_script.specs.declared.schedule_lines.ScheduleLine.{ScheduleLine}
use Rattle.fw_script.specs.declared.schedule_lines.ScheduleLine.TheVariants as lines
use Rattle.fw_script.specs.declared.schedule_lines.NextStep.{NextStep}
use Rattle.fw_script.specs.declared.schedule_lines.NextStep.TheVariants as next

-- the steps of a line
abbrev pub line_steps : ScheduleLine → List Step
line_steps (lines.Step step) = step ∷ []
line_steps (lines.Ticks count) = repeat count (full_tick ∷ [])

-- a skipped line has no steps
abbrev pub steps_if_any : Option ScheduleLine → List Step
steps_if_any None = []
steps_if_any (Some line) = line_steps line

-- the steps of lines, one after another
abbrev pub all_steps : List ScheduleLine → List Step
all_steps lines = flat_map line_steps lines

-- the next step
abbrev pub step_of_next : NextStep → Step
step_of_next (next.Said step) = step.now
step_of_next next.Tick = full_tick

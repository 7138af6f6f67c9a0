-- The lines of a file that a clue names, numbered from 1.
use Rattle.std.specs.Prelude.{ℕ, ◌+◌, ◌-◌, ◌++◌, ◌==◌, nat_le, if◌then◌else◌, List, [], ◌∷◌, Option, None, Some, Result, Ok, Err, codes, drop, length}
use Rattle.std.specs.List.{slice_split, starts_with}
use Rattle.fw_script.specs.Schedules.{script_of}
use Rattle.fw_script.specs.declared.faults.ScriptFault.{ScriptFault}
use Rattle.fw_steps.specs.declared.step.Step.{Step}

-- the lines of a text, each ended by a line feed; what follows the last line feed is a line too
abbrev pub file_lines : (text : List ℕ) → List (List ℕ)
file_lines text = slice_split (λ byte. byte == 10) text

-- the lines of the rest of a text, if there is any
abbrev pub lines_left : Option (List ℕ) → List (List ℕ)
lines_left None = []
lines_left (Some rest) = file_lines rest

-- the line with this number, counted from 1
abbrev pub line_at : (number : ℕ) → List (List ℕ) → Option (List ℕ)
line_at number [] = None
line_at number (line ∷ lines) = if number == 1 then Some line else line_at (number - 1) lines

-- the number of steps that were read
abbrev pub steps_read : Result (List Step) ScriptFault → ℕ
steps_read (Ok steps) = length steps
steps_read (Err fault) = 0

-- the number of steps of a line of a schedule, 0 if it can't be read
abbrev pub steps_in_line : (line : List ℕ) → ℕ
steps_in_line line = steps_read (script_of line)

-- The line that contains a step, which is counted from 1 in the steps of these lines; the first of
-- them has this number.
abbrev pub step_line_in : (number step : ℕ) → List (List ℕ) → Option (ℕ × List ℕ)
step_line_in number step [] = None
step_line_in number step (line ∷ lines) =
    if nat_le step (steps_in_line line) then Some (number, line)
    else step_line_in (number + 1) (step - steps_in_line line) lines

-- the number and the text of the line of a schedule that contains a step, counted from 1
abbrev pub step_line : (text : List ℕ) → (step : ℕ) → Option (ℕ × List ℕ)
step_line text step = step_line_in 1 step (file_lines text)

-- the path of a package, if a line of a configuration names one: what follows `package `
abbrev pub package_in_line : (line : List ℕ) → Option (List ℕ)
package_in_line line = if starts_with (λ a b. a == b) line (codes "package ") then Some (drop 8 line) else None

-- a line's number and the path that it names, if it names one
abbrev pub numbered_path : (number : ℕ) → Option (List ℕ) → List (ℕ × List ℕ)
numbered_path number None = []
numbered_path number (Some path) = (number, path) ∷ []

-- the same for lines of which the first has this number
abbrev pub package_lines_in : (number : ℕ) → List (List ℕ) → List (ℕ × List ℕ)
package_lines_in number [] = []
package_lines_in number (line ∷ lines) = numbered_path number (package_in_line line) ++ package_lines_in (number + 1) lines

-- the numbers and the paths of the lines of a configuration that name packages
abbrev pub package_lines : (text : List ℕ) → List (ℕ × List ℕ)
package_lines text = package_lines_in 1 (file_lines text)

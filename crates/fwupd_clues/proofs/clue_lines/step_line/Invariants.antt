use Rattle.std.proofs.Common.{◌≡◌, ◌+◌, ◌≤◌, length, option_map}
use Rattle.fwupd_clues.specs.ClueLines.{lines_left, step_line, step_line_in}
use Rattle.fwupd_clues.proofs.Lines.{size_left}
use Rattle.fwupd_clues.proofs.clue_lines.step_line.Given as goal

-- the step of the lines that are left
abbrev pub invariant-loop-rest : goal.invariant-loop-rest
invariant-loop-rest l = record {
  found : step_line_in (l.number + 1) l.left (lines_left (option_map (λ r. r.now) l.rest)) ≡ step_line l.text l.fn.step;
  few : l.number + size_left l.rest ≤ length l.text + 1;
}

abbrev pub decreases-loop-rest : goal.decreases-loop-rest
decreases-loop-rest l = size_left l.rest

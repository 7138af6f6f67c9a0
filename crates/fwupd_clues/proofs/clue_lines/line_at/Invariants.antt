use Rattle.std.proofs.Common.{◌≡◌, option_map}
use Rattle.fwupd_clues.specs.ClueLines.{file_lines, line_at, lines_left}
use Rattle.fwupd_clues.proofs.Lines.{size_left}
use Rattle.fwupd_clues.proofs.clue_lines.line_at.Given as goal

-- the line is that of the lines that are left
abbrev pub invariant-loop-rest : goal.invariant-loop-rest
invariant-loop-rest l = line_at l.left (lines_left (option_map (λ r. r.now) l.rest)) ≡ line_at l.fn.number (file_lines l.text)

abbrev pub decreases-loop-rest : goal.decreases-loop-rest
decreases-loop-rest l = size_left l.rest

use Rattle.std.proofs.Common.{◌≡◌, ◌+◌, ◌≤◌, ◌++◌, length, map, option_map}
use Rattle.fwupd_clues.specs.ClueLines.{lines_left, package_lines, package_lines_in}
use Rattle.fwupd_clues.proofs.Lines.{size_left}
use Rattle.fwupd_clues.proofs.clue_lines.package_lines.Given as goal

-- the packages so far, then those of the lines that are left, are all
abbrev pub invariant-loop-rest : goal.invariant-loop-rest
invariant-loop-rest l = record {
  found : map (λ p. (p.0, p.1.now)) l.found.items ++ package_lines_in (l.number + 1) (lines_left (option_map (λ r. r.now) l.rest)) ≡ package_lines l.text;
  few : l.number + size_left l.rest ≤ length l.text + 1;
}

abbrev pub decreases-loop-rest : goal.decreases-loop-rest
decreases-loop-rest l = size_left l.rest

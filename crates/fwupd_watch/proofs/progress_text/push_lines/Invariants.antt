use Rattle.std.proofs.Common.{◌≡◌, ◌++◌, take}
use Rattle.std.specs.List.{flat_map}
use Rattle.fwupd_watch.specs.Progress.{line_text}
use Rattle.fwupd_watch.proofs.progress_text.push_lines.Given as goal

-- the lines before the index are appended
abbrev pub invariant-loop-line : goal.invariant-loop-line
invariant-loop-line l = l.text.items ≡ l.fn.text.items ++ flat_map line_text (take l.line-index l.lines)

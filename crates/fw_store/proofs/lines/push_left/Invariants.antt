use Rattle.std.proofs.Common.{◌≡◌, ◌++◌, drop}
use Rattle.fw_store.specs.Keeping.{lines_left}
use Rattle.fw_store.proofs.lines.push_left.Given as goal

-- the lines so far are there, and the others are left
abbrev pub invariant-loop-entry : goal.invariant-loop-entry
invariant-loop-entry l = l.entries.items ++ lines_left l.images (drop l.entry-index l.old) ≡ l.fn.entries.items ++ lines_left l.images l.old

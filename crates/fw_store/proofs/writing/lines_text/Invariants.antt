use Rattle.std.proofs.Common.{◌≡◌, ◌++◌, drop}
use Rattle.fw_store.specs.Active.{lines_text as lines_of}
use Rattle.fw_store.proofs.writing.lines_text.Given as goal

-- the lines so far are written, and the others are left
abbrev pub invariant-loop-entry : goal.invariant-loop-entry
invariant-loop-entry l = l.text.items ++ lines_of (drop l.entry-index l.entries) ≡ lines_of l.entries

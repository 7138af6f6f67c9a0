use Rattle.std.proofs.Common.{take}
use Rattle.std.specs.List.{AllByRecursion}
use Rattle.fw_store.specs.Active.{IsImageEntry}
use Rattle.fw_store.proofs.lines.widths.Given as goal

-- the lines so far have their widths
abbrev pub invariant-loop-entry : goal.invariant-loop-entry
invariant-loop-entry l = AllByRecursion IsImageEntry (take l.entry-index l.entries)

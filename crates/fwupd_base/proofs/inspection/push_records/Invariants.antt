use Rattle.std.proofs.Common.{◌≡◌, ◌+◌, ◌++◌, length}
use Rattle.fwupd_base.specs.Inspection.{records_text}
use Rattle.fwupd_base.proofs.inspection.push_records.Given as goal

-- the text so far, then the rest to append
abbrev pub invariant-loop-number : goal.invariant-loop-number
invariant-loop-number l = record {
  counted : l.number + length l.records ≡ length l.fn.records;
  told : l.text.items ++ records_text (l.number + 1) l.records ≡ l.fn.text.items ++ records_text 1 l.fn.records;
}

use Rattle.std.proofs.Common.{map}
use Rattle.fw_package.specs.Asked.{asked_record_of}
use Rattle.fw_package.specs.Writing.{HasRecordWidths, record_bytes}
use Rattle.fw_package.proofs.Puts.{Putting}
use Rattle.fw_package.proofs.writing.put_records.Given as goal

-- the records so far
abbrev pub invariant-loop-asked : goal.invariant-loop-asked
invariant-loop-asked l = Putting (record_bytes l.bitmap_size) HasRecordWidths l.fn.header.items (map asked_record_of l.records) l.asked-index l.header.items

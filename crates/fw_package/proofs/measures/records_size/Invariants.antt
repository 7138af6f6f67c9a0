use Rattle.std.proofs.Common.{◌≡◌, map, take}
use Rattle.std.specs.List.{sum_by}
use Rattle.fw_package.specs.Asked.{asked_record_of, record_size}
use Rattle.fw_package.specs.Views.{capped_number}
use Rattle.fw_package.proofs.measures.records_size.Given as goal

-- the size so far
abbrev pub invariant-loop-record : goal.invariant-loop-record
invariant-loop-record l = l.size ≡ capped_number (sum_by (record_size l.bitmap_size) (map asked_record_of (take l.record-index l.records)))

use Rattle.std.proofs.Common.{◌≡◌, ◌-◌, IsSome}
use Rattle.fw_package.specs.Layout.{after_records}
use Rattle.fw_package.specs.Records.{records_of}
use Rattle.fw_package.proofs.Rows.{fault_of}
use Rattle.fw_package.proofs.records.Records.read.Given as goal

-- the walk goes through the records left, and their fault is that of all
abbrev pub invariant-loop-record : goal.invariant-loop-record
invariant-loop-record l = record {
  there : IsSome (after_records (l.count - l._record) l.rest);
  same : fault_of (records_of l.bitmap_size l.component_count (l.count - l._record) l.rest) ≡ fault_of (records_of l.bitmap_size l.component_count l.count l.bytes);
}

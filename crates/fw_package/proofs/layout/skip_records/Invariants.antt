use Rattle.std.proofs.Common.{◌≡◌, ◌-◌}
use Rattle.fw_package.specs.Layout.{after_records}
use Rattle.fw_package.proofs.layout.skip_records.Given as goal

-- the bytes after the records left are the bytes after all
abbrev pub invariant-loop-record : goal.invariant-loop-record
invariant-loop-record l = after_records (l.count - l._record) l.rest ≡ after_records l.count l.bytes

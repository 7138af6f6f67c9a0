use Rattle.std.proofs.Common.{◌≡◌, drop, map}
use Rattle.fw_script.specs.PackageSpecs.{spec_record_of}
use Rattle.fwupd_clues.specs.Warnings.{is_used_by_any}
use Rattle.fwupd_clues.proofs.warnings.is_used_by_any.Given as goal

-- the answer for the remaining records is the answer for all
abbrev pub invariant-loop-record : goal.invariant-loop-record
invariant-loop-record l = is_used_by_any (map spec_record_of (drop l.record-index l.records)) l.component ≡ is_used_by_any (map spec_record_of l.records) l.component

use Rattle.std.proofs.Common.{◌≡◌, map, take}
use Rattle.fw_package.specs.Asked.{asked_record_of}
use Rattle.fw_script.specs.PackageSpecs.{spec_record_of}
use Rattle.fwupd_jobs.specs.Built.{record_by}
use Rattle.fwupd_jobs.proofs.building.lent_records.Given as goal

-- the records so far
abbrev pub invariant-loop-place : goal.invariant-loop-place
invariant-loop-place l = map asked_record_of l.lent.items ≡ map record_by (map spec_record_of (take l.place l.records))

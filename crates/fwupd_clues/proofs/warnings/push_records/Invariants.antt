use Rattle.std.proofs.Common.{◌≡◌, ◌+◌, ◌++◌, drop, map}
use Rattle.fw_script.specs.PackageSpecs.{spec_record_of}
use Rattle.fwupd_clues.specs.Warnings.{warnings_of_records}
use Rattle.fwupd_clues.proofs.warnings.push_records.Given as goal

-- the warnings so far, then those of the remaining records
abbrev pub invariant-loop-place : goal.invariant-loop-place
invariant-loop-place l =
    l.text.items ++ warnings_of_records l.path (l.place + 1) (map spec_record_of (drop l.place l.records))
    ≡ l.fn.text.items ++ warnings_of_records l.path 1 (map spec_record_of l.fn.records)

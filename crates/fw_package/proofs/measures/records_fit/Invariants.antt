use Rattle.std.proofs.Common.{◌≡◌, drop, map}
use Rattle.std.specs.List.{list_all}
use Rattle.fw_package.specs.Asked.{asked_record_of, record_fits}
use Rattle.fw_package.proofs.measures.records_fit.Given as goal

-- the records left decide
abbrev pub invariant-loop-record : goal.invariant-loop-record
invariant-loop-record l = list_all record_fits (map asked_record_of (drop l.record-index l.records)) ≡ list_all record_fits (map asked_record_of l.records)

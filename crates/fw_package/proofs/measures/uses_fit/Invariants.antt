use Rattle.std.proofs.Common.{◌≡◌, drop, map}
use Rattle.std.specs.List.{list_all}
use Rattle.fw_package.specs.Asked.{are_uses, asked_record_of}
use Rattle.fw_package.proofs.measures.uses_fit.Given as goal

-- the records left decide
abbrev pub invariant-loop-record : goal.invariant-loop-record
invariant-loop-record l = list_all (λ r. are_uses l.count 0 r.uses) (map asked_record_of (drop l.record-index l.records)) ≡ list_all (λ r. are_uses l.count 0 r.uses) (map asked_record_of l.records)

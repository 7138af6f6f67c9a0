use Rattle.std.proofs.Common.{◌≡◌, drop, map}
use Rattle.fw_script.specs.PackageSpecs.{past_line, spec_record_of}
use Rattle.fw_script.proofs.spec_lines.past_line.Given as goal

-- the result for the remaining records is the result for all
abbrev pub invariant-loop-said : goal.invariant-loop-said
invariant-loop-said l = past_line l.count (map spec_record_of (drop l.said-index l.records)) ≡ past_line l.count (map spec_record_of l.records)

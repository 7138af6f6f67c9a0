use Rattle.std.proofs.Common.{◌≡◌, ◌+◌, ◌≤◌, length}
use Rattle.fw_script.specs.Lines.{lines_of}
use Rattle.fw_script.specs.PackageSpecs.{package_spec_of, spec_from}
use Rattle.fw_script.proofs.spec_lines.read_package_spec.Given as goal

-- reading the remaining lines gives the result of reading all
abbrev pub invariant-loop-rest : goal.invariant-loop-rest
invariant-loop-rest l = record {
  counted : l.line + length l.rest ≤ length l.text;
  read : spec_from (lines_of l.rest) l.line l.draft ≡ package_spec_of l.text;
}

abbrev pub decreases-loop-rest : goal.decreases-loop-rest
decreases-loop-rest l = length l.rest

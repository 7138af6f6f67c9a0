use Rattle.std.proofs.Common.{◌≡◌, ◌+◌, ◌++◌, length, map}
use Rattle.fw_package.specs.Package.{descriptor_of}
use Rattle.fw_setup.specs.Forecasts.{lack_lines}
use Rattle.fw_setup.proofs.forecast_text.push_lacks.Given as goal

-- the lines so far, and those that are left
abbrev pub invariant-loop-number : goal.invariant-loop-number
invariant-loop-number l = record {
  counted : l.number + length l.records ≡ length l.fn.records;
  told :
      l.text.items ++ lack_lines (map descriptor_of l.device) (l.number + 1) l.records
      ≡ l.fn.text.items ++ lack_lines (map descriptor_of l.device) 1 l.fn.records;
}

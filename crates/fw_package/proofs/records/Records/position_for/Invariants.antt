use Rattle.std.proofs.Common.{◌≡◌, ◌+◌, length, map}
use Rattle.std.specs.List.{position_or_len}
use Rattle.fw_package.specs.Choice.{is_for}
use Rattle.fw_package.specs.Package.{descriptor_of}
use Rattle.fw_package.proofs.records.Records.position_for.Given as goal

-- the answer for the records left is the answer for all
abbrev pub invariant-loop-number : goal.invariant-loop-number
invariant-loop-number l = record {
  counted : l.number + length l.self ≡ length l.fn.self;
  same : l.number + position_or_len (is_for (map descriptor_of l.device)) l.self ≡ position_or_len (is_for (map descriptor_of l.device)) l.fn.self;
}

use Rattle.std.proofs.Common.{◌≡◌, ◌-◌}
use Rattle.fw_package.specs.Records.{descriptors_split}
use Rattle.fw_package.proofs.Lists.{back_of}
use Rattle.fw_package.proofs.descriptors.Descriptors.read.Given as goal

-- the bytes after the descriptors left are the bytes after all
abbrev pub invariant-loop-descriptor : goal.invariant-loop-descriptor
invariant-loop-descriptor l = back_of (descriptors_split (l.count - l._descriptor) l.rest) ≡ back_of (descriptors_split l.count l.bytes)

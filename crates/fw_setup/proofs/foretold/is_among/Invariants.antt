use Rattle.std.proofs.Common.{◌≡◌, drop, map}
use Rattle.fw_package.specs.Choice.{is_among}
use Rattle.fw_package.specs.Package.{descriptor_of}
use Rattle.fw_setup.proofs.foretold.is_among.Given as goal

-- the answer for the descriptors that are left is the answer for all
abbrev pub invariant-loop-other : goal.invariant-loop-other
invariant-loop-other l = is_among (map descriptor_of (drop l.other-index l.device)) (descriptor_of l.descriptor) ≡ is_among (map descriptor_of l.device) (descriptor_of l.descriptor)

use Rattle.std.proofs.Common.{◌≡◌, map, take}
use Rattle.std.specs.List.{sum_by}
use Rattle.fw_package.specs.Asked.{descriptor_size}
use Rattle.fw_package.specs.Package.{descriptor_of}
use Rattle.fw_package.specs.Views.{capped_number}
use Rattle.fw_package.proofs.measures.descriptors_size.Given as goal

-- the size so far
abbrev pub invariant-loop-descriptor : goal.invariant-loop-descriptor
invariant-loop-descriptor l = l.size ≡ capped_number (sum_by descriptor_size (map descriptor_of (take l.descriptor-index l.descriptors)))

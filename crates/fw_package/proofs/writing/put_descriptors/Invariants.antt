use Rattle.std.proofs.Common.{◌<◌, map}
use Rattle.fw_package.specs.Package.{descriptor_of}
use Rattle.fw_package.specs.Writing.{descriptor_bytes}
use Rattle.fw_package.proofs.Puts.{Putting}
use Rattle.fw_package.proofs.writing.put_descriptors.Given as goal

-- the descriptors so far
abbrev pub invariant-loop-descriptor : goal.invariant-loop-descriptor
invariant-loop-descriptor l = Putting descriptor_bytes (λ d. d.kind < 65536) l.fn.header.items (map descriptor_of l.descriptors) l.descriptor-index l.header.items

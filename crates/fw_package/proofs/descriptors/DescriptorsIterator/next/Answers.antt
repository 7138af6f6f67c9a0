use Rattle.std.proofs.Common.{sym}
use Rattle.fw_package.specs.Package.{descriptor_of}
use Rattle.fw_package.proofs.Lists.{descriptors_left}
use Rattle.fw_package.proofs.descriptors.DescriptorsIterator.next.Goals as goal

pub invariant_of-self : goal.invariant_of-self
invariant_of-self c =
    (descriptors_left c.self.inside.count c.self.inside.rest.now c.in-Ok.rest.now (descriptor_of c.in-Ok.descriptor) c.self.invariant c.if-self-eq0.false (sym c.in-Ok.ensures)).others

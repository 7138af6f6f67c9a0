use Rattle.std.proofs.Common.{[], sym, unwrap_or}
use Rattle.fwup_wire.proofs.DescriptorLaws.{descriptors_behind}
use Rattle.fwup_wire.proofs.descriptors.DeviceDescriptorsIterator.next.Goals as goal
use Rattle.fwup_wire.specs.Descriptors.{descriptors_in}
use Rattle.fwup_wire.specs.Lent.{device_descriptor_of}

-- the descriptors after the first
pub invariant_of-self : goal.invariant_of-self
invariant_of-self c =
    rw (c.rest.ensures, c.in_ok-descriptor.ensures.rest, c.new-cursor.ensures)
    (descriptors_behind c.self.inside.count c.self.inside.bytes.now (device_descriptor_of c.in_ok-descriptor.descriptor)
    (unwrap_or (descriptors_in c.self.inside.count c.self.inside.bytes.now) []) c.if-self-eq0.false
    (sym (rw c.new-cursor.ensures at c.in_ok-descriptor.ensures.value)) c.self.invariant)

use Rattle.std.proofs.Common.{[], sym, unwrap_or}
use Rattle.fwup_wire.proofs.DescriptorLaws.{descriptors_kept, descriptors_longer, descriptors_seen}
use Rattle.fwup_wire.proofs.descriptor_list.DescriptorList.push.Goals as goal
use Rattle.fwup_wire.specs.Descriptors.{descriptors_in}
use Rattle.fwup_wire.specs.Lent.{device_descriptor_of}

pub invariant_of-self : goal.invariant_of-self
invariant_of-self c =
    rw c.put_descriptor.ensures.bytes (
      descriptors_kept c.self.inside.count c.self.inside.bytes.items
          (unwrap_or (descriptors_in c.self.inside.count c.self.inside.bytes.items) []) (device_descriptor_of c.args.descriptor.now)
          c.self.invariant.0 c.put_descriptor.ensures.widths,
      descriptors_longer c.self.inside.count c.self.inside.bytes.items (device_descriptor_of c.args.descriptor.now) c.self.invariant.1,
    )

pub returns : goal.returns
returns c =
    rw (c.put_descriptor.ensures.bytes, sym c.self.view_is)
    (descriptors_seen c.self.inside.count c.self.inside.bytes.items
    (unwrap_or (descriptors_in c.self.inside.count c.self.inside.bytes.items) []) (device_descriptor_of c.args.descriptor.now)
    c.self.invariant.0 c.put_descriptor.ensures.widths)

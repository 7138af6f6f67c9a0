use Rattle.std.proofs.Common.{arith, sym, ◌∙◌}
use Rattle.fwup_wire.specs.Descriptors.{descriptor_size, first_descriptor}
use Rattle.fwup_wire.specs.Lent.{device_descriptor_of}
use Rattle.fwup_wire.proofs.Items.{items_more}
use Rattle.fwup_wire.proofs.descriptors.DeviceDescriptors.read.Goals as goal

pub loop-preserved : goal.loop-preserved
loop-preserved c =
    rw c.in_ok-descriptor.ensures.rest
    (c.loop.invariant
    ∙ items_more first_descriptor descriptor_size c.args.count c.loop.counter c.loop.cursor
    (device_descriptor_of c.in_ok-descriptor.field-0) (omega arith) (sym c.in_ok-descriptor.ensures.value))

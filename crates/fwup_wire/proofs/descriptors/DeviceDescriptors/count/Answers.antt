use Rattle.std.proofs.Common.{Some, ap, sym, ◌∙◌}
use Rattle.fwup_wire.proofs.Items.{items_length}
use Rattle.fwup_wire.proofs.descriptors.DeviceDescriptors.count.Goals as goal
use Rattle.fwup_wire.specs.Descriptors.{descriptor_size, first_descriptor}

pub returns : goal.returns
returns c =
    sym
    (items_length first_descriptor descriptor_size c.self.inside.count c.self.inside.bytes.now c.args.self.now
    (c.self.invariant.found ∙ ap (λ items. Some items) c.self.view_is))

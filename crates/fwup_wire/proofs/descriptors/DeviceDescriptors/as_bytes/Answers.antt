use Rattle.std.proofs.Common.{Some, ap, ◌∙◌}
use Rattle.fwup_wire.proofs.Items.{items_counted}
use Rattle.fwup_wire.proofs.descriptors.DeviceDescriptors.as_bytes.Goals as goal
use Rattle.fwup_wire.specs.Descriptors.{descriptor_size, first_descriptor}

pub returns-clause-found : goal.returns-clause-found
returns-clause-found c =
    items_counted first_descriptor descriptor_size c.self.inside.count c.self.inside.bytes.now c.args.self.now
    (c.self.invariant.found ∙ ap (λ items. Some items) c.self.view_is)

use Rattle.std.proofs.Common.{Some, ap, sym, ◌∙◌}
use Rattle.fwup_wire.proofs.Items.{items_length}
use Rattle.fwup_wire.proofs.parameters.Parameters.len.Goals as goal
use Rattle.fwup_wire.specs.Parameters.{parameters_size, first_parameters}

pub returns : goal.returns
returns c =
    c.from.ensures
    ∙ sym
    (items_length first_parameters parameters_size c.self.inside.count c.self.inside.bytes.now c.args.self.now
    (c.self.invariant.found ∙ ap (λ items. Some items) c.self.view_is))

use Rattle.std.proofs.Common.{Some, ap, ◌∙◌}
use Rattle.fwup_wire.proofs.Items.{items_counted}
use Rattle.fwup_wire.proofs.parameters.Parameters.as_bytes.Goals as goal
use Rattle.fwup_wire.specs.Parameters.{first_parameters, parameters_size}

pub returns-clause-found : goal.returns-clause-found
returns-clause-found c =
    items_counted first_parameters parameters_size c.self.inside.count c.self.inside.bytes.now c.args.self.now
    (c.self.invariant.found ∙ ap (λ items. Some items) c.self.view_is)

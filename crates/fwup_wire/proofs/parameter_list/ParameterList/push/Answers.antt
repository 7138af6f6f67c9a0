use Rattle.std.proofs.Common.{[], sym, unwrap_or}
use Rattle.fwup_wire.proofs.ParameterLaws.{parameters_kept, parameters_longer, parameters_seen}
use Rattle.fwup_wire.proofs.parameter_list.ParameterList.push.Goals as goal
use Rattle.fwup_wire.specs.Parameters.{parameters_in}
use Rattle.fwup_wire.specs.Lent.{parameters_of}

pub invariant_of-self : goal.invariant_of-self
invariant_of-self c =
    rw c.put_parameters.ensures.bytes (
      parameters_kept c.self.inside.count c.self.inside.bytes.items
          (unwrap_or (parameters_in c.self.inside.count c.self.inside.bytes.items) []) (parameters_of c.args.parameters.now)
          c.self.invariant.0 c.put_parameters.ensures.widths,
      parameters_longer c.self.inside.count c.self.inside.bytes.items (parameters_of c.args.parameters.now) c.self.invariant.1,
    )

pub returns : goal.returns
returns c =
    rw (c.put_parameters.ensures.bytes, sym c.self.view_is)
    (parameters_seen c.self.inside.count c.self.inside.bytes.items
    (unwrap_or (parameters_in c.self.inside.count c.self.inside.bytes.items) []) (parameters_of c.args.parameters.now)
    c.self.invariant.0 c.put_parameters.ensures.widths)

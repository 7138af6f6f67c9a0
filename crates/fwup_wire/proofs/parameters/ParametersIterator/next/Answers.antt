use Rattle.std.proofs.Common.{[], sym, unwrap_or}
use Rattle.fwup_wire.proofs.ParameterLaws.{parameters_behind}
use Rattle.fwup_wire.proofs.parameters.ParametersIterator.next.Goals as goal
use Rattle.fwup_wire.specs.Parameters.{parameters_in}
use Rattle.fwup_wire.specs.Lent.{parameters_of}

-- the components after the first
pub invariant_of-self : goal.invariant_of-self
invariant_of-self c =
    rw (c.rest.ensures, c.in_ok-parameters.ensures.rest, c.new-cursor.ensures)
    (parameters_behind c.self.inside.count c.self.inside.bytes.now (parameters_of c.in_ok-parameters.parameters)
    (unwrap_or (parameters_in c.self.inside.count c.self.inside.bytes.now) []) c.if-self-eq0.false
    (sym (rw c.new-cursor.ensures at c.in_ok-parameters.ensures.value)) c.self.invariant)

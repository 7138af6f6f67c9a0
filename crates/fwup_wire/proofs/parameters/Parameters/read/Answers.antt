use Rattle.std.proofs.Common.{arith, sym, ◌∙◌}
use Rattle.fwup_wire.specs.Parameters.{parameters_size, first_parameters}
use Rattle.fwup_wire.specs.Lent.{parameters_of}
use Rattle.fwup_wire.proofs.Items.{items_more}
use Rattle.fwup_wire.proofs.parameters.Parameters.read.Goals as goal

pub loop-preserved : goal.loop-preserved
loop-preserved c =
    rw c.in_ok-parameters.ensures.rest
    (c.loop.invariant
    ∙ items_more first_parameters parameters_size c.args.count c.loop.counter c.loop.cursor
    (parameters_of c.in_ok-parameters.field-0) (omega arith) (sym c.in_ok-parameters.ensures.value))

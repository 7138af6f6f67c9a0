-- The operator starts an update.
use Rattle.std.proofs.Common.{refl, sym}
use Rattle.fw_steps.proofs.Leading.{may_start_there, start_leads}
use Rattle.fw_steps.proofs.state.State.start.Goals as goal

pub returns-clause-taken : goal.returns-clause-taken
returns-clause-taken g c =
    let may = may_start_there _ c.args.number _ c.if-number-eq0.false c.if-self-number.false c.in-Ok.ensures.free in
    rw (sym c.self.view_is) (start_leads _ _ c.args.device c.args.number may (rw c.in-Ok.ensures.started refl))

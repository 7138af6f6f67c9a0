-- The operator has a device activate.
use Rattle.std.proofs.Common.{◌∙◌, refl, sym}
use Rattle.fw_steps.proofs.Leading.{activated_leads}
use Rattle.fw_steps.proofs.state.State.activate.Goals as goal

pub returns-clause-taken : goal.returns-clause-taken
returns-clause-taken g c =
    rw (sym c.self.view_is) (activated_leads _ _ c.args.device c.activate.new.self (sym c.session.ensures.known ∙ c.if-is_none.ensures) refl c.in-Ok.ensures.ready)

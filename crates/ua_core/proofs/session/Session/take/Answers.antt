use Rattle.fwup_wire.specs.Values.{CommandOf}
use Rattle.ua_core.proofs.Fitting.{answers_fit}
use Rattle.ua_core.proofs.session.Session.take.Goals as goal

pub returns-in-RequestFirmwareData-clause-fits : goal.returns-in-RequestFirmwareData-clause-fits
returns-in-RequestFirmwareData-clause-fits c =
    rw c.data.ensures.answer
    (answers_fit c.args.lent.now c.args.self.now.session (CommandOf.RequestFirmwareData c.in-RequestFirmwareData.offset c.in-RequestFirmwareData.length))

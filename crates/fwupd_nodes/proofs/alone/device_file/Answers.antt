use Rattle.std.proofs.Common.{inr, refl}
use Rattle.fwupd_nodes.proofs.alone.device_file.Goals as goal

pub returns-in-Err-clause-fault : goal.returns-in-Err-clause-fault
returns-in-Err-clause-fault g c = inr (c.in-Err.ensures.fault, (refl, refl, refl))

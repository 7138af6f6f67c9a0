use Rattle.std.proofs.Common.{inl, refl}
use Rattle.fwupd_jobs.proofs.building.build_told.Goals as goal

pub returns-in-Err-clause-fault : goal.returns-in-Err-clause-fault
returns-in-Err-clause-fault g c = inl (c.in-Err.ensures.fault, (c.in-Err.ensures.kept, refl))

use Rattle.fwupd_jobs.proofs.Soakings.{both_of}
use Rattle.fwupd_jobs.proofs.jobs.perform_job.Goals as goal

pub returns-in-Soak-clause-fault : goal.returns-in-Soak-clause-fault
returns-in-Soak-clause-fault g c = rw c.in-Soak.is (both_of c.soak_file.result _ _ c.soak_file.ensures.fault c.soak_file.ensures.kept)

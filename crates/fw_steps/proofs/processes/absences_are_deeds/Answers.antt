use Rattle.fw_steps.proofs.Absences.{absences_are_deeds}
use Rattle.fw_steps.proofs.processes.absences_are_deeds.Goals as goal

pub returns : goal.returns
returns c = record { law = absences_are_deeds }

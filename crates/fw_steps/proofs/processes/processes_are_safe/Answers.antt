use Rattle.fw_steps.proofs.ProcessesAreSafe.{processes_are_safe}
use Rattle.fw_steps.proofs.processes.processes_are_safe.Goals as goal

pub returns : goal.returns
returns c = record { law = processes_are_safe c.packets_are_safe.ensures.law }

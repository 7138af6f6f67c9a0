use Rattle.fw_serve.proofs.TracedProcesses.{served_processes_are_safe}
use Rattle.fw_serve.proofs.process_laws.served_processes_are_safe.Goals as goal

pub returns : goal.returns
returns c = record { law = served_processes_are_safe c.traces_are_safe.ensures.law }

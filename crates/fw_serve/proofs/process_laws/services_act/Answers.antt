use Rattle.fw_serve.proofs.TracedProcesses.{served_processes_end, services_act}
use Rattle.fw_serve.proofs.process_laws.services_act.Goals as goal

pub returns : goal.returns
returns c = record { law = services_act; end = served_processes_end }

use Rattle.fw_steps.proofs.TracesAreSafe.{traces_are_safe}
use Rattle.fw_steps.proofs.processes.traces_are_safe.Goals as goal

pub returns : goal.returns
returns c = record { law = traces_are_safe c.packets_are_safe.ensures.law }

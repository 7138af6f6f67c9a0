use Rattle.fw_steps.proofs.TracesAreCut.{traces_are_cut}
use Rattle.fw_steps.proofs.processes.traces_are_cut.Goals as goal

pub returns : goal.returns
returns c = record { law = traces_are_cut }

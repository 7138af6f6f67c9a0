use Rattle.fw_steps.proofs.TracesArePlays.Plays.{traces_are_plays}
use Rattle.fw_steps.proofs.processes.traces_are_plays.Goals as goal

pub returns : goal.returns
returns c = record { law = traces_are_plays }

use Rattle.fw_steps.proofs.PacketsAreTheirs.{packets_are_theirs}
use Rattle.fw_steps.proofs.processes.packets_are_theirs.Goals as goal

pub returns : goal.returns
returns c = record { law = packets_are_theirs }

use Rattle.fw_steps.proofs.NodesAlone.{agent_is_alone, devices_are_alone}
use Rattle.fw_steps.proofs.processes.nodes_are_alone.Goals as goal

pub returns : goal.returns
returns c = record { agent = agent_is_alone; devices = devices_are_alone }

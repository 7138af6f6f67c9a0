use Rattle.fw_steps.proofs.PacketsAreSafe.AsMessages.{runs_are_messages}
use Rattle.fw_steps.proofs.headline.packets_are_messages.Goals as goal

pub returns : goal.returns
returns c = record { law = runs_are_messages c.lane_is_a_cell.ensures.law c.links_are_lanes.ensures.law c.links_are_messages.ensures.law }

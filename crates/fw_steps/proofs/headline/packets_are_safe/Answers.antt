use Rattle.fw_steps.proofs.PacketsAreSafe.Safe.{worlds_safe}
use Rattle.fw_steps.proofs.headline.packets_are_safe.Goals as goal

pub returns : goal.returns
returns c = record { law = worlds_safe c.lane_is_a_cell.ensures.law c.links_are_lanes.ensures.law c.links_are_messages.ensures.law c.worlds_are_safe.ensures.law }

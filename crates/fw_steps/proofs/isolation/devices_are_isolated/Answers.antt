use Rattle.fw_steps.proofs.DevicesAreIsolated.Runs.{devices_isolated}
use Rattle.fw_steps.proofs.isolation.devices_are_isolated.Goals as goal

pub returns : goal.returns
returns c = record { law = devices_isolated c.lane_is_a_cell.ensures.law c.links_are_lanes.ensures.law c.links_are_messages.ensures.law }

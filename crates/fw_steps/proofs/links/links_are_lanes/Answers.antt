use Rattle.fw_steps.proofs.LinksAreLanes.InLanes.{link_in_lanes}
use Rattle.fw_steps.proofs.links.links_are_lanes.Goals as goal

pub returns : goal.returns
returns c = record { law = link_in_lanes c.lane_is_a_cell.ensures.law }

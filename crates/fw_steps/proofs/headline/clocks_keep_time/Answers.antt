use Rattle.fw_steps.proofs.PacketsAreSafe.Clocks.{runs_keep_time}
use Rattle.fw_steps.proofs.headline.clocks_keep_time.Goals as goal

pub returns : goal.returns
returns c = record { law = runs_keep_time c.lane_is_a_cell.ensures.law c.links_are_lanes.ensures.law c.links_are_messages.ensures.law c.time_adds_up.ensures.law }

use Rattle.fw_steps.proofs.PacketsAreSafe.Grown.{runs_grow}
use Rattle.fw_steps.proofs.PacketsAreSafe.Tied.{runs_join, runs_stay_tied}
use Rattle.fw_steps.proofs.headline.moments_are_tied.Goals as goal

pub returns : goal.returns
returns c = record {
  join = runs_join;
  grow = runs_grow;
  tied = runs_stay_tied c.lane_is_a_cell.ensures.law c.links_are_lanes.ensures.law c.links_are_messages.ensures.law c.packets_are_safe.ensures.law;
}

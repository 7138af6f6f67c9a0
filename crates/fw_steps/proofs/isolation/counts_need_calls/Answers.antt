use Rattle.fw_steps.proofs.DevicesAreIsolated.Runs.{counts_need_calls}
use Rattle.fw_steps.proofs.isolation.counts_need_calls.Goals as goal

pub returns : goal.returns
returns c = record { law = counts_need_calls c.lane_is_a_cell.ensures.law c.links_are_lanes.ensures.law c.links_are_messages.ensures.law }

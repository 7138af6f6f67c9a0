use Rattle.fw_steps.proofs.ReadingBack.RunsRoundTrip.{messages_round_trip}
use Rattle.fw_steps.proofs.links.messages_round_trip.Goals as goal

pub returns : goal.returns
returns c = record { law = messages_round_trip c.lane_is_a_cell.ensures.law c.links_are_lanes.ensures.law c.links_are_messages.ensures.law }

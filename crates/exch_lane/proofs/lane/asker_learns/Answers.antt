use Rattle.mctp_wire.specs.Packet.{spelling}
use Rattle.pldm_exch.specs.Sides.{asking_row}
use Rattle.exch_lane.proofs.LaneRows.{stays_between}
use Rattle.exch_lane.proofs.lane.asker_learns.Goals as goal

pub returns-in-Some-clause-between : goal.returns-in-Some-clause-between
returns-in-Some-clause-between c = rw c.on_reply.ensures.after (stays_between c.args.asker.now (asking_row c.args.asker.now (spelling c.args.packet.now)))

use Rattle.std.proofs.Common.{refl, sym}
use Rattle.mctp_wire.specs.Packet.{spelling}
use Rattle.mctp_reasm.specs.Pieces.{packet_of}
use Rattle.pldm_exch.proofs.SideRows.{whole_requests}
use Rattle.pldm_exch.proofs.taker.Taker.on_request.Goals as goal

pub returns-clause-after : goal.returns-clause-after
returns-clause-after c =
    rw (← c.self.view_is, c.feed.ensures.after)
    (sym (whole_requests (record { unit = c.self.inside.inbox.unit; own = c.self.inside.inbox.own; peer = c.self.inside.inbox.peer; kept = c.self.inside.answerer; requests = c.self.inside.inbox.held })
    (spelling c.args.packet.now) (packet_of c.args.packet.now.head c.args.packet.now.body.now) c.feed.new.whole
    (sym (rw c.self.invariant at c.if-not-accepts.ensures.heard refl)) c.in-Whole.ensures.answer))

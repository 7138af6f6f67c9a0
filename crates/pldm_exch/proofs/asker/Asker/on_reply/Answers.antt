use Rattle.std.proofs.Common.{◌∙◌, refl, sym}
use Rattle.mctp_wire.specs.Packet.{spelling}
use Rattle.mctp_reasm.specs.Pieces.{packet_of}
use Rattle.pldm_exch.proofs.SideRows.{whole_after, whole_learnt}
use Rattle.pldm_exch.proofs.asker.Asker.on_reply.Goals as goal

pub returns-clause-after : goal.returns-clause-after
returns-clause-after c =
    rw (← c.self.view_is, c.feed.ensures.after, c.on_answer.ensures.after)
    (sym (whole_after (record { unit = c.self.inside.inbox.unit; own = c.self.inside.inbox.own; peer = c.self.inside.inbox.peer; caller = c.self.inside.caller; replies = c.self.inside.inbox.held })
    (spelling c.args.packet.now) (packet_of c.args.packet.now.head c.args.packet.now.body.now) c.feed.new.whole
    (sym (rw c.self.invariant at c.if-not-accepts.ensures.heard refl)) c.in-Whole.ensures.answer))

pub returns-in_default-on_answer-clause-learnt : goal.returns-in_default-on_answer-clause-learnt
returns-in_default-on_answer-clause-learnt c =
    rw (← c.self.view_is)
    (c.in_default-on_answer.ensures.answer
    ∙ sym (whole_learnt (record { unit = c.self.inside.inbox.unit; own = c.self.inside.inbox.own; peer = c.self.inside.inbox.peer; caller = c.self.inside.caller; replies = c.self.inside.inbox.held })
    (spelling c.args.packet.now) (packet_of c.args.packet.now.head c.args.packet.now.body.now) c.feed.new.whole
    (sym (rw c.self.invariant at c.if-not-accepts.ensures.heard refl)) c.in-Whole.ensures.answer))

pub returns-in_default-on_answer-clause-after : goal.returns-in_default-on_answer-clause-after
returns-in_default-on_answer-clause-after c =
    rw (← c.self.view_is, c.feed.ensures.after, c.on_answer.ensures.after)
    (sym (whole_after (record { unit = c.self.inside.inbox.unit; own = c.self.inside.inbox.own; peer = c.self.inside.inbox.peer; caller = c.self.inside.caller; replies = c.self.inside.inbox.held })
    (spelling c.args.packet.now) (packet_of c.args.packet.now.head c.args.packet.now.body.now) c.feed.new.whole
    (sym (rw c.self.invariant at c.if-not-accepts.ensures.heard refl)) c.in-Whole.ensures.answer))

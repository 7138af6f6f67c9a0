use Rattle.std.proofs.Common.{◌∙◌, sym, subst}
use Rattle.mctp_wire.specs.Packet.{spelling}
use Rattle.pldm_exch.specs.Sides.{answering_row, asking_after, asking_row, reply_in_message}
use Rattle.fw_node.specs.BothEnds.{IsAsking}
use Rattle.fw_node.proofs.OneATick.{hears_is}
use Rattle.fw_node.proofs.Rows.{asking_stays, brings_learnt, keeps_learnt}
use Rattle.fw_node.proofs.ends.Ends.receive.Goals as goal

pub invariant_of-self : goal.invariant_of-self
invariant_of-self c =
    let stays = asking_stays c.self.inside.asker (asking_row c.self.inside.asker (spelling c.args.packet.now)) in
    rw c.on_reply.ensures.after
    (c.self.invariant.0 ∙ sym stays.0, c.self.invariant.1 ∙ sym stays.1, c.self.invariant.2 ∙ sym stays.2, subst (λ peer. IsAsking peer (asking_after c.self.inside.asker (asking_row c.self.inside.asker (spelling c.args.packet.now))).caller) (sym stays.2) (hears_is c.self.inside.asker (spelling c.args.packet.now) c.self.invariant.3))

pub invariant_of-self-2 : goal.invariant_of-self-2
invariant_of-self-2 c =
    let stays = asking_stays c.self.inside.asker (asking_row c.self.inside.asker (spelling c.args.packet.now)) in
    rw (c.on_request.ensures.after, c.on_reply.ensures.after)
    (c.self.invariant.0 ∙ sym stays.0, c.self.invariant.1 ∙ sym stays.1, c.self.invariant.2 ∙ sym stays.2, subst (λ peer. IsAsking peer (asking_after c.self.inside.asker (asking_row c.self.inside.asker (spelling c.args.packet.now))).caller) (sym stays.2) (hears_is c.self.inside.asker (spelling c.args.packet.now) c.self.invariant.3))

pub returns-in-Some-clause-incoming : goal.returns-in-Some-clause-incoming
returns-in-Some-clause-incoming c =
    rw (← c.self.view_is)
    (sym (brings_learnt (asking_row c.self.inside.asker (spelling c.args.packet.now)) (answering_row c.self.inside.taker (spelling c.args.packet.now)) (reply_in_message c.in-Some.command c.on_reply.new.message) c.in-Some.ensures.learnt))

pub returns-in-Some-clause-answering : goal.returns-in-Some-clause-answering
returns-in-Some-clause-answering c =
    rw (← c.self.view_is)
    (sym (keeps_learnt (asking_row c.self.inside.asker (spelling c.args.packet.now)) c.self.inside.taker (answering_row c.self.inside.taker (spelling c.args.packet.now)) (reply_in_message c.in-Some.command c.on_reply.new.message) c.in-Some.ensures.learnt))

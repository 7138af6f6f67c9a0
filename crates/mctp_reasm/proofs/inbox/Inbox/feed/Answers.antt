use Rattle.mctp_reasm.specs.Inboxes.{held_in}
use Rattle.mctp_reasm.specs.Pieces.{packet_of}
use Rattle.mctp_reasm.proofs.Routes.{inbox_with}
use Rattle.mctp_reasm.proofs.inbox.Inbox.feed.Goals as goal

pub invariant_of-self : goal.invariant_of-self
invariant_of-self c = (
  inbox_with c.self.inside.unit c.self.inside.own c.self.inside.peer c.self.inside.to (held_in c.self.inside.places) (held_in c.feed_to.new.places)
      (packet_of c.args.packet.now.head c.args.packet.now.body.now) c.feed_to.ensures.after c.self.invariant.0
      (rw (← c.self.view_is) at c.requires.mine),
  c.feed_to.ensures.unit,
)

use Rattle.std.proofs.Common.{◌∙◌, ap, refl}
use Rattle.mctp_reasm.specs.Inboxes.{held_in}
use Rattle.mctp_reasm.proofs.Places.{held_in_tick, units_tick}
use Rattle.mctp_reasm.proofs.Routes.{inbox_tick}
use Rattle.mctp_reasm.proofs.inbox.Inbox.tick.Goals as goal

pub invariant_of-self : goal.invariant_of-self
invariant_of-self c = (
  inbox_tick c.self.inside.unit c.self.inside.own c.self.inside.peer c.self.inside.to (held_in c.self.inside.places) (held_in c.tick_all.new.places)
      (ap (λ xs. held_in xs) c.tick_all.ensures ∙ held_in_tick c.self.inside.places) c.self.invariant.0,
  rw c.tick_all.ensures (units_tick c.self.inside.unit c.self.inside.places c.self.invariant.1),
)

pub returns : goal.returns
returns c = rw (← c.self.view_is, c.tick_all.ensures, held_in_tick c.self.inside.places) refl

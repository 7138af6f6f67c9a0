use Rattle.std.proofs.Common.{◌+◌, arith, refl, rules}
use Rattle.fw_edge.proofs.Going.{goes_none}
use Rattle.fw_edge.proofs.Stopping.{link_failed, link_refused}
use Rattle.fw_edge.proofs.Turning.{came_frame, came_nothing}
use Rattle.fw_edge.specs.declared.driving.EdgeFault.TheVariants as faults
use Rattle.fw_edge.proofs.rounds.read_end.Goals as goal

pub returns-in-Err-clause-stopped : goal.returns-in-Err-clause-stopped
returns-in-Err-clause-stopped g c =
    link_failed g.L.Link.tally faults.Frame c.args.device c.args.end c.args.world.now c.args.steps.now.items c.args.link.now c.receive_into.new.self refl c.in-Err.ensures.err

pub returns-in-Err-hand_over-clause-stopped : goal.returns-in-Err-hand_over-clause-stopped
returns-in-Err-hand_over-clause-stopped g c =
    link_refused g.L.Link.tally c.in-Err-hand_over.fault c.args.device c.args.end c.args.world.now c.hand_over.new.world c.args.steps.now.items c.hand_over.new.steps.items _ c.args.link.now c.receive_into.new.self
    c.in-Err-hand_over.ensures.refused c.receive_into.new.packet.items c.in-Err-hand_over.ensures.known c.in-Ok.ensures.ok

pub returns-then-not-came-clause-read : goal.returns-then-not-came-clause-read
returns-then-not-came-clause-read g c = record {
  goes = rw c.none.ensures.known (goes_none c.args.world.now c.args.steps.now.items);
  few = omega (arith, c.none.ensures.known, c.none.ensures.foreign);
  came =
      came_nothing c.args.world.now c.args.steps.now.items (g.L.Link.gave c.args.link.now) (g.L.Link.gave c.receive_into.new.self) c.args.device c.args.end (c.none.result.known + c.none.result.foreign)
      (rw c.if-not-came.true at c.in-Ok.ensures.gave)
      (omega (arith, c.none.ensures.known, c.none.ensures.foreign));
  took_none = c.in-Ok.ensures.taken;
  reads = search rules;
}

pub returns-in-Ok-hand_over-clause-read : goal.returns-in-Ok-hand_over-clause-read
returns-in-Ok-hand_over-clause-read g c = record {
  goes = c.in-Ok-hand_over.ensures.goes;
  few = omega (arith, c.in-Ok-hand_over.ensures.one);
  came =
      came_frame c.args.world.now c.hand_over.new.world c.args.steps.now.items c.hand_over.new.steps.items (g.L.Link.gave c.args.link.now) (g.L.Link.gave c.receive_into.new.self) c.args.device c.args.end c.receive_into.new.packet.items
      (c.in-Ok-hand_over.frames.known + c.in-Ok-hand_over.frames.foreign) c.in-Ok-hand_over.ensures.over (rw c.if-not-came.false at c.in-Ok.ensures.gave) c.in-Ok-hand_over.ensures.one;
  took_none = c.in-Ok.ensures.taken;
  reads = search rules;
}

use Rattle.std.proofs.Common.{◌∙◌, ◌∷◌, ◌+◌, [], arith, refl, rules}
use Rattle.fw_edge.proofs.Going.{goes_sum}
use Rattle.fw_message.specs.declared.side.Side.TheVariants as sides
use Rattle.fw_edge.proofs.Stopping.{link_first, link_second}
use Rattle.fw_edge.proofs.Turning.{came_on}
use Rattle.fw_edge.proofs.rounds.read_both.Goals as goal

pub returns-in-Err-clause-stopped : goal.returns-in-Err-clause-stopped
returns-in-Err-clause-stopped g c =
    link_first g.L.Link.tally c.in-Err.fault c.args.device c.args.world.now c.read_end.new.world c.args.steps.now.items c.read_end.new.steps.items c.args.link.now c.read_end.new.link c.in-Err.ensures.stopped

pub returns-in-Err-read_end-clause-stopped : goal.returns-in-Err-read_end-clause-stopped
returns-in-Err-read_end-clause-stopped g c =
    link_second g.L.Link.tally g.L.Link.taken g.L.Link.gave c.in-Err-read_end.fault c.args.device c.args.world.now c.read_end.new.world c.read_end-2.new.world c.args.steps.now.items c.read_end.new.steps.items
    c.read_end-2.new.steps.items c.args.link.now c.read_end.new.link c.read_end-2.new.link c.in-Ok.frames.known c.in-Ok.frames.foreign c.in-Ok.ensures.read c.in-Err-read_end.ensures.stopped

pub returns-clause-read : goal.returns-clause-read
returns-clause-read g c = record {
  goes =
      goes_sum c.args.world.now c.read_end.new.world c.read_end-2.new.world c.args.steps.now.items c.read_end.new.steps.items c.read_end-2.new.steps.items
      0 c.in-Ok.frames.known 0 c.in-Ok-read_end.frames.known 0 c.and.result.known c.in-Ok.ensures.read.goes c.in-Ok-read_end.ensures.read.goes refl c.and.ensures.known;
  few = omega (arith, c.in-Ok.ensures.read.few, c.in-Ok-read_end.ensures.read.few, c.and.ensures.known, c.and.ensures.foreign);
  came =
      came_on c.args.world.now c.read_end.new.world c.read_end-2.new.world c.args.steps.now.items c.read_end.new.steps.items c.read_end-2.new.steps.items
      (g.L.Link.gave c.args.link.now) (g.L.Link.gave c.read_end.new.link) (g.L.Link.gave c.read_end-2.new.link)
      ((c.args.device, sides.Device) ∷ []) ((c.args.device, sides.Agent) ∷ []) (c.in-Ok.frames.known + c.in-Ok.frames.foreign) (c.in-Ok-read_end.frames.known + c.in-Ok-read_end.frames.foreign)
      (c.and.result.known + c.and.result.foreign) c.in-Ok.ensures.read.came c.in-Ok-read_end.ensures.read.came (omega (arith, c.and.ensures.known, c.and.ensures.foreign));
  took_none = c.in-Ok-read_end.ensures.read.took_none ∙ c.in-Ok.ensures.read.took_none;
  reads = search rules;
}

use Rattle.std.proofs.Common.{◌∙◌, ◌+◌, arith, map, refl, sym}
use Rattle.fw_edge.specs.Links.{links_at}
use Rattle.fw_edge.proofs.Going.{drives_none, drives_on}
use Rattle.fw_edge.proofs.Overs.{still_on}
use Rattle.fw_edge.proofs.Parts.{clock_at, driven_none, driven_on, told_behind}
use Rattle.fw_edge.proofs.Turning.{drove_next, drove_none}
use Rattle.fw_edge.proofs.driving.take_turns.Goals as goal

pub returns-in-Err-clause-drives : goal.returns-in-Err-clause-drives
returns-in-Err-clause-drives g c =
    drives_on c.args.world.now c.loop-count.world c.turn.new.world c.args.steps.now.items c.loop-count.steps.items c.turn.new.steps.items
    c.loop-count.invariant.drives c.in-Err.ensures.stopped.drives

pub returns-in-Err-clause-over : goal.returns-in-Err-clause-over
returns-in-Err-clause-over g c over =
    (still_on c.args.world.now c.loop-count.world c.turn.new.world c.args.steps.now.items c.loop-count.steps.items c.turn.new.steps.items c.all_over.result
    c.loop-count.invariant.over c.all_over.ensures c.if-all_over.false over).1

pub returns-in-Err-clause-stopped : goal.returns-in-Err-clause-stopped
returns-in-Err-clause-stopped g c = record {
  failed =
      told_behind c.in-Err.fault (map (λ k. (g.L.Link.tally k).failures) c.args.links.now) (map (λ k. (g.L.Link.tally k).failures) c.loop-count.links) (map (λ k. (g.L.Link.tally k).failures) c.turn.new.links)
      c.loop-count.invariant.counts.kept c.in-Err.ensures.stopped.failed;
  step = clock_at c.in-Err.fault c.loop-count.world c.turn.new.world c.loop-count.steps.items c.turn.new.steps.items c.in-Err.ensures.stopped.stops;
  stopped = record {
    turns = c.loop-count.count;
    mid = c.loop-count.world;
    steps = c.loop-count.steps.items;
    links = links_at c.loop-count.written (map g.L.Link.taken c.loop-count.links) (map g.L.Link.gave c.loop-count.links);
    count = c.loop-count.invariant.drove.count;
    turned = c.loop-count.invariant.drove.turned;
    on = sym c.all_over.ensures ∙ c.if-all_over.false;
    stops = c.in-Err.ensures.stopped.stops;
    last = c.in-Err.ensures.stopped.last;
  };
  within = omega arith;
  ticks = (let earlier = c.loop-count.invariant.ticks in let later = c.in-Err.ensures.stopped.few in omega arith);
}

pub loop-count-preserved : goal.loop-count-preserved
loop-count-preserved g c = record {
  drives =
      drives_on c.args.world.now c.loop-count.world c.turn.new.world c.args.steps.now.items c.loop-count.steps.items c.turn.new.steps.items
      c.loop-count.invariant.drives c.in-Ok.ensures.done.goes.drives;
  drove =
      drove_next c.loop-count.count c.args.world.now c.loop-count.world c.turn.new.world c.args.steps.now.items c.loop-count.steps.items c.turn.new.steps.items
      (links_at c.args.written.now (map g.L.Link.taken c.args.links.now) (map g.L.Link.gave c.args.links.now))
      (links_at c.loop-count.written (map g.L.Link.taken c.loop-count.links) (map g.L.Link.gave c.loop-count.links))
      (links_at c.turn.new.written (map g.L.Link.taken c.turn.new.links) (map g.L.Link.gave c.turn.new.links))
      c.loop-count.foreign c.in-Ok.frames.known c.in-Ok.frames.foreign (c.loop-count.foreign + c.in-Ok.frames.foreign) c.all_over.result c.loop-count.invariant.drove c.all_over.ensures c.if-all_over.false
      c.in-Ok.ensures.done.does_so c.in-Ok.ensures.done.goes.delivers_rise refl;
  over =
      still_on c.args.world.now c.loop-count.world c.turn.new.world c.args.steps.now.items c.loop-count.steps.items c.turn.new.steps.items c.all_over.result
      c.loop-count.invariant.over c.all_over.ensures c.if-all_over.false;
  ticks = omega (arith, c.loop-count.invariant.ticks, c.in-Ok.ensures.done.goes.ticks_rise);
  same = c.in-Ok.ensures.links ∙ c.loop-count.invariant.same;
  written = omega (arith, c.loop-count.invariant.written, c.in-Ok.ensures.written, c.in-Ok.ensures.links);
  few = omega (arith, c.loop-count.invariant.few, c.in-Ok.ensures.done.few);
  counts =
      driven_on g.L.Link.tally c.loop-count.count c.args.world.now c.loop-count.world c.turn.new.world c.args.steps.now.items c.loop-count.steps.items c.turn.new.steps.items
      c.loop-count.written c.turn.new.written c.args.links.now c.loop-count.links c.turn.new.links c.in-Ok.frames.known c.in-Ok.frames.foreign c.loop-count.foreign
      c.loop-count.invariant.all c.in-Ok.ensures.all c.in-Ok.ensures.done.goes.delivers_rise c.loop-count.invariant.counts c.in-Ok.ensures.done.counts;
  all = c.in-Ok.ensures.all;
}

pub loop-count-init : goal.loop-count-init
loop-count-init g c = record {
  drives = drives_none c.args.world.now c.args.steps.now.items;
  drove = drove_none c.args.world.now c.args.steps.now.items (links_at c.args.written.now (map g.L.Link.taken c.args.links.now) (map g.L.Link.gave c.args.links.now));
  over = λ h. (refl, refl);
  ticks = omega arith;
  same = refl;
  written = c.requires.written;
  few = omega arith;
  counts = driven_none g.L.Link.tally c.args.world.now c.args.steps.now.items c.args.written.now c.args.links.now c.requires.all c.requires.written;
  all = c.requires.all;
}

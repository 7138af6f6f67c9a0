use Rattle.std.proofs.Common.{◌+◌, [], arith, map, refl}
use Rattle.fw_steps.specs.Worlds.{eids_of}
use Rattle.fw_edge.specs.Links.{links_at}
use Rattle.fw_edge.proofs.Failing.{behind_next, same_from, stops_put}
use Rattle.fw_edge.proofs.Going.{goes_none, goes_off, goes_sum}
use Rattle.fw_edge.proofs.Rising.{map_length, rose_all, rose_next, together_next, together_none}
use Rattle.fw_edge.proofs.Stopping.{asks_at}
use Rattle.fw_edge.proofs.Turning.{came_all, came_next, came_none}
use Rattle.fw_edge.proofs.rounds.read_round.Goals as goal

pub returns-in-Err-clause-stopped : goal.returns-in-Err-clause-stopped
returns-in-Err-clause-stopped g c = record {
  drives =
      goes_off c.args.world.now c.loop-place.world c.read_both.new.world c.args.steps.now.items c.loop-place.steps.items c.read_both.new.steps.items
      0 c.loop-place.frames.known c.loop-place.invariant.goes c.in-Err.ensures.stopped.drives;
  no_tick = (let first = c.loop-place.invariant.goes.ticks_rise in let second = c.in-Err.ensures.stopped.no_tick in omega arith);
  fault = c.in-Err.ensures.stopped.fault;
  failed =
      stops_put c.in-Err.fault (λ k. (g.L.Link.tally k).failures) c.loop-place.place c.loop-place.links c.args.links.now c.index-links-place.result c.read_both.new.link (omega arith) (omega arith)
      c.loop-place.invariant.kept c.loop-place.invariant.behind c.in-Err.ensures.stopped.failed;
  some =
      asks_at c.in-Err.fault c.loop-place.place (c.loop-place.frames.known + c.loop-place.frames.foreign) c.eid_at-device.result c.args.world.now c.loop-place.world c.read_both.new.world c.args.steps.now.items
      c.loop-place.steps.items c.read_both.new.steps.items (links_at [] (map g.L.Link.taken c.args.links.now) (map g.L.Link.gave c.args.links.now))
      (links_at [] (map g.L.Link.taken c.loop-place.links) (map g.L.Link.gave c.loop-place.links)) c.loop-place.invariant.goes.drives (omega (arith, c.requires.devices)) c.eid_at-device.ensures
      c.loop-place.invariant.came c.in-Err.ensures.stopped.some;
}

pub loop-place-preserved : goal.loop-place-preserved
loop-place-preserved g c = record {
  goes =
      goes_sum c.args.world.now c.loop-place.world c.read_both.new.world c.args.steps.now.items c.loop-place.steps.items c.read_both.new.steps.items
      0 c.loop-place.frames.known 0 c.in-Ok.more.known 0 c.and-frames.result.known c.loop-place.invariant.goes c.in-Ok.ensures.read.goes refl c.and-frames.ensures.known;
  came =
      came_next g.L.Link.taken g.L.Link.gave [] c.loop-place.links c.index-links-place.result c.read_both.new.link (links_at [] (map g.L.Link.taken c.args.links.now) (map g.L.Link.gave c.args.links.now))
      c.args.world.now c.loop-place.world c.read_both.new.world c.args.steps.now.items c.loop-place.steps.items c.read_both.new.steps.items
      c.loop-place.place (c.loop-place.frames.known + c.loop-place.frames.foreign) (c.in-Ok.more.known + c.in-Ok.more.foreign) (c.and-frames.result.known + c.and-frames.result.foreign) c.eid_at-device.result
      c.loop-place.invariant.goes.drives (omega (arith, c.requires.devices)) (omega arith) c.eid_at-device.ensures c.loop-place.invariant.came c.in-Ok.ensures.read.came c.in-Ok.ensures.read.took_none
      (omega (arith, c.and-frames.ensures.known, c.and-frames.ensures.foreign));
  few = omega (arith, c.in-Ok.ensures.read.few, c.and-frames.ensures.known, c.and-frames.ensures.foreign);
  behind = behind_next c.loop-place.place c.loop-place.links c.args.links.now c.read_both.new.link (omega arith) (omega arith) c.loop-place.invariant.behind;
  kept =
      same_from (λ k. (g.L.Link.tally k).failures) (map (λ k. (g.L.Link.tally k).failures) c.args.links.now) c.loop-place.links c.loop-place.place c.index-links-place.result c.read_both.new.link
      c.loop-place.invariant.kept c.in-Ok.ensures.read.reads.failures;
  asked =
      rose_next (λ k. (g.L.Link.tally k).asked) 2 (map (λ k. (g.L.Link.tally k).asked) c.args.links.now) c.loop-place.links c.loop-place.place c.index-links-place.result c.read_both.new.link
      (omega arith) c.in-Ok.ensures.read.reads.asked_rise c.loop-place.invariant.asked;
  given =
      together_next (λ k. (g.L.Link.tally k).given) (c.loop-place.frames.known + c.loop-place.frames.foreign) (c.in-Ok.more.known + c.in-Ok.more.foreign)
      (c.and-frames.result.known + c.and-frames.result.foreign) (map (λ k. (g.L.Link.tally k).given) c.args.links.now) c.loop-place.links c.loop-place.place
      c.index-links-place.result c.read_both.new.link (omega arith) c.in-Ok.ensures.read.reads.given_rise (omega (arith, c.and-frames.ensures.known, c.and-frames.ensures.foreign))
      c.loop-place.invariant.given;
  sent =
      same_from (λ k. (g.L.Link.tally k).sent) (map (λ k. (g.L.Link.tally k).sent) c.args.links.now) c.loop-place.links c.loop-place.place c.index-links-place.result c.read_both.new.link
      c.loop-place.invariant.sent c.in-Ok.ensures.read.reads.sent;
}

pub loop-place-init : goal.loop-place-init
loop-place-init g c = record {
  goes = rw c.none-frames.ensures.known (goes_none c.args.world.now c.args.steps.now.items);
  came = came_none (eids_of c.args.world.now.sites) c.args.world.now c.args.steps.now.items (links_at [] (map g.L.Link.taken c.args.links.now) (map g.L.Link.gave c.args.links.now)) (c.none-frames.result.known + c.none-frames.result.foreign) (omega (arith, c.none-frames.ensures.known, c.none-frames.ensures.foreign));
  few = omega (arith, c.none-frames.ensures.known, c.none-frames.ensures.foreign);
  behind = refl;
  kept = refl;
  asked = refl;
  given = rw (c.none-frames.ensures.known, c.none-frames.ensures.foreign) (together_none (map (λ k. (g.L.Link.tally k).given) c.args.links.now) (map (λ k. (g.L.Link.tally k).given) c.args.links.now) refl);
  sent = refl;
}

pub returns-clause-read : goal.returns-clause-read
returns-clause-read g c = record {
  came =
      came_all c.args.world.now c.loop-place.world c.args.steps.now.items c.loop-place.steps.items (links_at [] (map g.L.Link.taken c.args.links.now) (map g.L.Link.gave c.args.links.now))
      (links_at [] (map g.L.Link.taken c.loop-place.links) (map g.L.Link.gave c.loop-place.links)) c.loop-place.place (c.loop-place.frames.known + c.loop-place.frames.foreign)
      (omega (arith, c.requires.devices)) c.loop-place.invariant.came;
  goes = c.loop-place.invariant.goes;
  few = omega (arith, c.loop-place.invariant.few, c.requires.few);
  counts = record {
    kept = c.loop-place.invariant.kept;
    asked =
        rose_all 2 c.loop-place.place (map (λ k. (g.L.Link.tally k).asked) c.args.links.now) (map (λ k. (g.L.Link.tally k).asked) c.loop-place.links)
        (rw (map_length (λ k. (g.L.Link.tally k).asked) c.args.links.now) (omega arith)) c.loop-place.invariant.asked;
    given = c.loop-place.invariant.given;
    sent = c.loop-place.invariant.sent;
  };
}

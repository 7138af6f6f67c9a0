use Rattle.std.proofs.Common.{◌+◌, ◌*◌, arith, inl, inr, map, refl}
use Rattle.fw_edge.proofs.Going.{goes_none, goes_sum}
use Rattle.fw_edge.proofs.Parts.{exchanged_less, exchanged_none, exchanged_on, stopped_later}
use Rattle.fw_steps.specs.Worlds.{eids_of}
use Rattle.fw_edge.specs.Links.{links_at}
use Rattle.fw_edge.specs.Turns.{RoundStops, RoundsStop}
use Rattle.fw_edge.proofs.Stopping.{same_stops}
use Rattle.fw_edge.proofs.Turning.{rounds_next, rounds_read, same_round}
use Rattle.fw_edge.proofs.rounds.rounds.Goals.{then-count-eq0-via-then-count-eq0, then-count-eq0-via-else-count-eq0+then-count-ge-MAX_FRAMES}
use Rattle.fw_edge.proofs.rounds.rounds.Goals as goal

pub returns-in-Err-clause-stopped : goal.returns-in-Err-clause-stopped
returns-in-Err-clause-stopped g c =
    stopped_later g.L.Link.tally g.L.Link.taken g.L.Link.gave (RoundStops c.in-Err.fault (eids_of c.loop.world.sites)) (RoundsStop c.in-Err.fault (eids_of c.args.world.now.sites)) c.in-Err.fault
    c.args.world.now c.loop.world c.round.new.world c.args.steps.now.items c.loop.steps.items c.round.new.steps.items c.args.written.now c.loop.written
    c.args.links.now c.loop.links c.round.new.links c.loop.frames.known c.loop.invariant.goes c.loop.invariant.counts.kept c.in-Err.ensures.stopped
    (record {
      rounds = c.loop.counter;
      mid = c.loop.world;
      steps = c.loop.steps.items;
      links = links_at c.loop.written (map g.L.Link.taken c.loop.links) (map g.L.Link.gave c.loop.links);
      read = c.loop.frames.known + c.loop.frames.foreign;
      earlier = c.loop.invariant.on;
      last =
          same_stops c.in-Err.fault c.args.world.now c.loop.world c.round.new.world c.args.steps.now.items c.loop.steps.items c.round.new.steps.items
          (links_at c.loop.written (map g.L.Link.taken c.loop.links) (map g.L.Link.gave c.loop.links)) c.loop.invariant.goes.drives c.in-Err.ensures.stopped.stops_so;
    })

pub loop-init : goal.loop-init
loop-init g c = record {
  goes = rw c.none-frames.ensures.known (goes_none c.args.world.now c.args.steps.now.items);
  few = omega (arith, c.none-frames.ensures.known, c.none-frames.ensures.foreign);
  on = (refl, refl, refl, omega (arith, c.none-frames.ensures.known, c.none-frames.ensures.foreign));
  counts =
      exchanged_none g.L.Link.tally c.args.written.now c.args.links.now (c.none-frames.result.known + c.none-frames.result.foreign)
      (omega (arith, c.none-frames.ensures.known, c.none-frames.ensures.foreign)) c.requires.written;
  within = c.requires.within;
}

pub loop-preserved : goal.loop-preserved
loop-preserved g c = record {
  goes =
      goes_sum c.args.world.now c.loop.world c.round.new.world c.args.steps.now.items c.loop.steps.items c.round.new.steps.items
      0 c.loop.frames.known 0 c.in-Ok.more.known 0 c.and-frames.result.known c.loop.invariant.goes c.in-Ok.ensures.done.goes refl c.and-frames.ensures.known;
  on =
      rounds_next (eids_of c.args.world.now.sites) c.loop.counter c.args.world.now c.loop.world c.round.new.world c.args.steps.now.items c.loop.steps.items c.round.new.steps.items
      (links_at c.args.written.now (map g.L.Link.taken c.args.links.now) (map g.L.Link.gave c.args.links.now))
      (links_at c.loop.written (map g.L.Link.taken c.loop.links) (map g.L.Link.gave c.loop.links))
      (links_at c.round.new.written (map g.L.Link.taken c.round.new.links) (map g.L.Link.gave c.round.new.links))
      (c.loop.frames.known + c.loop.frames.foreign) (c.in-Ok.more.known + c.in-Ok.more.foreign) (c.and-frames.result.known + c.and-frames.result.foreign) c.loop.invariant.on
      (same_round c.args.world.now c.loop.world c.round.new.world c.args.steps.now.items c.loop.steps.items c.round.new.steps.items (links_at c.loop.written (map g.L.Link.taken c.loop.links) (map g.L.Link.gave c.loop.links)) (links_at c.round.new.written (map g.L.Link.taken c.round.new.links) (map g.L.Link.gave c.round.new.links)) (c.in-Ok.more.known + c.in-Ok.more.foreign) c.loop.invariant.goes.drives c.in-Ok.ensures.done.does_so)
      (omega arith) (omega (arith, c.and-frames.ensures.known, c.and-frames.ensures.foreign)) (omega (arith, c.count-else-count-eq0.ensures));
  few = omega (arith, c.count-else-count-eq0.ensures);
  counts =
      exchanged_less g.L.Link.tally (2 * (c.loop.counter + 1)) (2 * c.loop.counter + 2) (c.and-frames.result.known + c.and-frames.result.foreign) c.args.written.now c.round.new.written c.args.links.now c.round.new.links
      (omega arith)
      (exchanged_on g.L.Link.tally (2 * c.loop.counter) 2 (c.loop.frames.known + c.loop.frames.foreign) (c.in-Ok.more.known + c.in-Ok.more.foreign) (c.and-frames.result.known + c.and-frames.result.foreign)
      c.args.written.now c.loop.written c.round.new.written c.args.links.now c.loop.links c.round.new.links (omega (arith, c.and-frames.ensures.known, c.and-frames.ensures.foreign))
      c.loop.invariant.counts c.in-Ok.ensures.done.counts);
  within = c.in-Ok.ensures.within;
}

pub returns-then-count-eq0-clause-done : goal.returns-then-count-eq0-clause-done
returns-then-count-eq0-clause-done g c = record {
  does_so = record {
    rounds = c.loop.counter;
    mid = c.loop.world;
    steps = c.loop.steps.items;
    links = links_at c.loop.written (map g.L.Link.taken c.loop.links) (map g.L.Link.gave c.loop.links);
    read = c.loop.frames.known + c.loop.frames.foreign;
    more = c.in-Ok.more.known + c.in-Ok.more.foreign;
    earlier = c.loop.invariant.on;
    last = same_round c.args.world.now c.loop.world c.round.new.world c.args.steps.now.items c.loop.steps.items c.round.new.steps.items (links_at c.loop.written (map g.L.Link.taken c.loop.links) (map g.L.Link.gave c.loop.links)) (links_at c.round.new.written (map g.L.Link.taken c.round.new.links) (map g.L.Link.gave c.round.new.links)) (c.in-Ok.more.known + c.in-Ok.more.foreign) c.loop.invariant.goes.drives c.in-Ok.ensures.done.does_so;
    all = omega (arith, c.and-frames.ensures.known, c.and-frames.ensures.foreign);
    ended =
        elim c.then-count-eq0.branch [
          | then-count-eq0-via-then-count-eq0 w ↦ inl (omega (arith, w.if-count-eq0.true, c.count.ensures))
          | then-count-eq0-via-else-count-eq0+then-count-ge-MAX_FRAMES w ↦ inr (omega (arith, w.count-else-count-eq0.ensures, w.if-count-ge-MAX_FRAMES.true))
        ];
  };
  goes =
      goes_sum c.args.world.now c.loop.world c.round.new.world c.args.steps.now.items c.loop.steps.items c.round.new.steps.items
      0 c.loop.frames.known 0 c.in-Ok.more.known 0 c.and-frames.result.known c.loop.invariant.goes c.in-Ok.ensures.done.goes refl c.and-frames.ensures.known;
  few = omega (arith, c.loop.invariant.few, c.in-Ok.ensures.done.few, c.and-frames.ensures.known, c.and-frames.ensures.foreign);
  counts =
      exchanged_less g.L.Link.tally 2 (2 * c.loop.counter + 2) (c.and-frames.result.known + c.and-frames.result.foreign) c.args.written.now c.round.new.written c.args.links.now c.round.new.links
      (omega arith)
      (exchanged_on g.L.Link.tally (2 * c.loop.counter) 2 (c.loop.frames.known + c.loop.frames.foreign) (c.in-Ok.more.known + c.in-Ok.more.foreign) (c.and-frames.result.known + c.and-frames.result.foreign)
      c.args.written.now c.loop.written c.round.new.written c.args.links.now c.loop.links c.round.new.links (omega (arith, c.and-frames.ensures.known, c.and-frames.ensures.foreign))
      c.loop.invariant.counts c.in-Ok.ensures.done.counts);
}

pub returns-clause-done : goal.returns-clause-done
returns-clause-done g c =
    let read = rounds_read (eids_of c.args.world.now.sites) c.loop.counter c.args.world.now c.loop.world c.args.steps.now.items c.loop.steps.items (links_at c.args.written.now (map g.L.Link.taken c.args.links.now) (map g.L.Link.gave c.args.links.now)) (links_at c.loop.written (map g.L.Link.taken c.loop.links) (map g.L.Link.gave c.loop.links)) (c.loop.frames.known + c.loop.frames.foreign) c.loop.invariant.on in
    absurd (omega (arith, c.loop.invariant.few, c.loop-test.false))

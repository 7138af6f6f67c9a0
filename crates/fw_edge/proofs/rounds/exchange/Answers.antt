use Rattle.std.proofs.Common.{◌+◌, inl, inr, map}
use Rattle.fw_edge.specs.Links.{links_at}
use Rattle.fw_edge.specs.Turns.{ExchangeStops, RoundStops}
use Rattle.fw_steps.specs.Worlds.{eids_of}
use Rattle.fw_edge.proofs.Parts.{exchanged_wrote, stopped_later, stopped_refused}
use Rattle.fw_edge.proofs.rounds.exchange.Goals as goal

pub returns-in-Err-clause-stopped : goal.returns-in-Err-clause-stopped
returns-in-Err-clause-stopped g c = record {
  drives = c.in-Err.ensures.stopped.drives;
  no_tick = c.in-Err.ensures.stopped.no_tick;
  stops_so = inl c.in-Err.ensures.stopped.stops_so;
  fault = c.in-Err.ensures.stopped.fault;
  failed = c.in-Err.ensures.stopped.failed;
}

pub returns-in-Err-write_out-clause-stopped : goal.returns-in-Err-write_out-clause-stopped
returns-in-Err-write_out-clause-stopped g c =
    stopped_later g.L.Link.tally g.L.Link.taken g.L.Link.gave (RoundStops c.in-Err-write_out.fault (eids_of c.rounds.new.world.sites)) (ExchangeStops c.in-Err-write_out.fault (eids_of c.args.world.now.sites)) c.in-Err-write_out.fault
    c.args.world.now c.rounds.new.world c.rounds.new.world c.args.steps.now.items c.rounds.new.steps.items c.rounds.new.steps.items c.args.written.now c.rounds.new.written
    c.args.links.now c.rounds.new.links c.write_out.new.links c.in-Ok.frames.known c.in-Ok.ensures.done.goes c.in-Ok.ensures.done.counts.kept
    (stopped_refused g.L.Link.tally g.L.Link.taken g.L.Link.gave c.in-Err-write_out.fault c.rounds.new.world c.rounds.new.steps.items c.rounds.new.written c.rounds.new.links c.write_out.new.links
    c.in-Err-write_out.ensures.refused)
    (inr (
      c.in-Err-write_out.ensures.refused.is,
      record {
        links = links_at c.rounds.new.written (map g.L.Link.taken c.rounds.new.links) (map g.L.Link.gave c.rounds.new.links);
        count = c.in-Ok.frames.known + c.in-Ok.frames.foreign;
        rounds = c.in-Ok.ensures.done.does_so;
      },
    ))

pub returns-clause-done : goal.returns-clause-done
returns-clause-done g c = record {
  does_so = record {
    links = links_at c.rounds.new.written (map g.L.Link.taken c.rounds.new.links) (map g.L.Link.gave c.rounds.new.links);
    rounds = c.in-Ok.ensures.done.does_so;
    out = c.in-Ok-write_out.ensures.out;
  };
  goes = c.in-Ok.ensures.done.goes;
  few = c.in-Ok.ensures.done.few;
  counts =
      exchanged_wrote g.L.Link.tally 2 (c.in-Ok.frames.known + c.in-Ok.frames.foreign) c.args.written.now c.rounds.new.written c.write_out.new.written c.args.links.now c.rounds.new.links c.write_out.new.links
      c.in-Ok.ensures.done.counts c.in-Ok-write_out.ensures.wrote;
}

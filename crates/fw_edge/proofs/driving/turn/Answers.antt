use Rattle.std.proofs.Common.{◌+◌, ap, arith, inl, inr, map, refl}
use Rattle.fw_edge.specs.Drives.{DrivesCounted, ticks_in}
use Rattle.fw_edge.specs.Links.{links_at}
use Rattle.fw_edge.proofs.Gaining.{drives_gain}
use Rattle.fw_edge.proofs.Going.{drives_none, drives_same, goes_off, goes_sum}
use Rattle.fw_edge.proofs.Parts.{stops_on, told_kept}
use Rattle.fw_edge.proofs.driving.turn.Goals as goal

pub returns-in-Err-clause-stopped : goal.returns-in-Err-clause-stopped
returns-in-Err-clause-stopped g c = record {
  drives =
      drives_same c.args.world.now c.args.world.now c.tick.new.world c.args.steps.now.items c.args.steps.now.items c.tick.new.steps.items (drives_none c.args.world.now c.args.steps.now.items)
      c.in-Err.ensures.same c.in-Err.ensures.unlisted;
  few = (let same = ap ticks_in c.in-Err.ensures.unlisted in omega arith);
  last = inl (c.in-Err.ensures.fault, c.in-Err.ensures.same, c.in-Err.ensures.unlisted);
  failed = (λ is. absurd (c.in-Err.ensures.fault is), λ other. refl);
  stops = (λ is. (c.in-Err.ensures.end is, c.in-Err.ensures.same, c.in-Err.ensures.unlisted), λ other. c.in-Err.ensures.before_end other);
}

pub returns-in-Err-exchange-clause-stopped : goal.returns-in-Err-exchange-clause-stopped
returns-in-Err-exchange-clause-stopped g c = record {
  drives =
      goes_off c.args.world.now c.tick.new.world c.exchange.new.world c.args.steps.now.items c.tick.new.steps.items c.exchange.new.steps.items
      1 0 c.in-Ok.ensures.goes c.in-Err-exchange.ensures.stopped.drives;
  few = (let first = c.in-Ok.ensures.goes.ticks_rise in let second = c.in-Err-exchange.ensures.stopped.no_tick in omega arith);
  last = inr (inl (record { ticked = c.tick.new.world; ticked_steps = c.tick.new.steps.items; tick = c.in-Ok.ensures.tick; stops = c.in-Err-exchange.ensures.stopped.stops_so }));
  failed = c.in-Err-exchange.ensures.stopped.failed;
  stops = (λ step. absurd (c.in-Err-exchange.ensures.stopped.fault step), λ other. c.in-Ok.ensures.on);
}

pub returns-in-Err-judge_all-clause-stopped : goal.returns-in-Err-judge_all-clause-stopped
returns-in-Err-judge_all-clause-stopped g c =
    let first : DrivesCounted c.args.world.now c.args.steps.now.items c.exchange.new.world c.exchange.new.steps.items 1 c.in-Ok-exchange.frames.known =
    goes_sum c.args.world.now c.tick.new.world c.exchange.new.world c.args.steps.now.items c.tick.new.steps.items c.exchange.new.steps.items
    1 0 0 c.in-Ok-exchange.frames.known 1 c.in-Ok-exchange.frames.known c.in-Ok.ensures.goes c.in-Ok-exchange.ensures.done.goes refl (omega arith) in
    record {
      drives =
          goes_off c.args.world.now c.exchange.new.world c.judge_all.new.world c.args.steps.now.items c.exchange.new.steps.items c.judge_all.new.steps.items
          1 c.in-Ok-exchange.frames.known first c.in-Err-judge_all.ensures.stopped.drives;
      few = (let earlier = first.ticks_rise in let later = c.in-Err-judge_all.ensures.stopped.no_tick in omega arith);
      last = inr (inr (
        c.in-Err-judge_all.ensures.stopped.fault,
        inl (record {
          heard = c.exchange.new.world;
          heard_steps = c.exchange.new.steps.items;
          hears = record {
            ticked = c.tick.new.world;
            ticked_steps = c.tick.new.steps.items;
            tick = c.in-Ok.ensures.tick;
            links = links_at c.exchange.new.written (map g.L.Link.taken c.exchange.new.links) (map g.L.Link.gave c.exchange.new.links);
            count = c.in-Ok-exchange.frames.known + c.in-Ok-exchange.frames.foreign;
            exchanged = c.in-Ok-exchange.ensures.done.does_so;
          };
          some = c.in-Err-judge_all.ensures.stopped.some;
        }),
      ));
      failed =
          told_kept c.in-Err-judge_all.fault (map (λ k. (g.L.Link.tally k).failures) c.args.links.now) (map (λ k. (g.L.Link.tally k).failures) c.exchange.new.links)
          c.in-Err-judge_all.ensures.stopped.fault c.in-Ok-exchange.ensures.done.counts.kept;
      stops = stops_on c.in-Err-judge_all.fault c.args.world.now c.judge_all.new.world c.args.steps.now.items c.judge_all.new.steps.items c.in-Err-judge_all.ensures.stopped.fault c.in-Ok.ensures.on;
    }

pub returns-in-Err-activate_all-clause-stopped : goal.returns-in-Err-activate_all-clause-stopped
returns-in-Err-activate_all-clause-stopped g c =
    let first : DrivesCounted c.args.world.now c.args.steps.now.items c.exchange.new.world c.exchange.new.steps.items 1 c.in-Ok-exchange.frames.known =
    goes_sum c.args.world.now c.tick.new.world c.exchange.new.world c.args.steps.now.items c.tick.new.steps.items c.exchange.new.steps.items
    1 0 0 c.in-Ok-exchange.frames.known 1 c.in-Ok-exchange.frames.known c.in-Ok.ensures.goes c.in-Ok-exchange.ensures.done.goes refl (omega arith) in
    let second : DrivesCounted c.args.world.now c.args.steps.now.items c.judge_all.new.world c.judge_all.new.steps.items 1 c.in-Ok-exchange.frames.known =
    goes_sum c.args.world.now c.exchange.new.world c.judge_all.new.world c.args.steps.now.items c.exchange.new.steps.items c.judge_all.new.steps.items
    1 c.in-Ok-exchange.frames.known 0 0 1 c.in-Ok-exchange.frames.known first c.in-Ok-judge_all.ensures.quiet.goes refl (omega arith) in
    record {
      drives =
          goes_off c.args.world.now c.judge_all.new.world c.activate_all.new.world c.args.steps.now.items c.judge_all.new.steps.items c.activate_all.new.steps.items
          1 c.in-Ok-exchange.frames.known second c.in-Err-activate_all.ensures.stopped.drives;
      few = (let earlier = second.ticks_rise in let later = c.in-Err-activate_all.ensures.stopped.no_tick in omega arith);
      last = inr (inr (
        c.in-Err-activate_all.ensures.stopped.fault,
        inr (record {
          heard = c.exchange.new.world;
          heard_steps = c.exchange.new.steps.items;
          hears = record {
            ticked = c.tick.new.world;
            ticked_steps = c.tick.new.steps.items;
            tick = c.in-Ok.ensures.tick;
            links = links_at c.exchange.new.written (map g.L.Link.taken c.exchange.new.links) (map g.L.Link.gave c.exchange.new.links);
            count = c.in-Ok-exchange.frames.known + c.in-Ok-exchange.frames.foreign;
            exchanged = c.in-Ok-exchange.ensures.done.does_so;
          };
          judged = c.judge_all.new.world;
          judged_steps = c.judge_all.new.steps.items;
          verdicts = c.in-Ok-judge_all.ensures.due;
          some = c.in-Err-activate_all.ensures.stopped.some;
        }),
      ));
      failed =
          told_kept c.in-Err-activate_all.fault (map (λ k. (g.L.Link.tally k).failures) c.args.links.now) (map (λ k. (g.L.Link.tally k).failures) c.exchange.new.links)
          c.in-Err-activate_all.ensures.stopped.fault c.in-Ok-exchange.ensures.done.counts.kept;
      stops = stops_on c.in-Err-activate_all.fault c.args.world.now c.activate_all.new.world c.args.steps.now.items c.activate_all.new.steps.items c.in-Err-activate_all.ensures.stopped.fault c.in-Ok.ensures.on;
    }

pub returns-clause-done : goal.returns-clause-done
returns-clause-done g c =
    let first : DrivesCounted c.args.world.now c.args.steps.now.items c.exchange.new.world c.exchange.new.steps.items 1 c.in-Ok-exchange.frames.known =
    goes_sum c.args.world.now c.tick.new.world c.exchange.new.world c.args.steps.now.items c.tick.new.steps.items c.exchange.new.steps.items
    1 0 0 c.in-Ok-exchange.frames.known 1 c.in-Ok-exchange.frames.known c.in-Ok.ensures.goes c.in-Ok-exchange.ensures.done.goes refl (omega arith) in
    let second : DrivesCounted c.args.world.now c.args.steps.now.items c.judge_all.new.world c.judge_all.new.steps.items 1 c.in-Ok-exchange.frames.known =
    goes_sum c.args.world.now c.exchange.new.world c.judge_all.new.world c.args.steps.now.items c.exchange.new.steps.items c.judge_all.new.steps.items
    1 c.in-Ok-exchange.frames.known 0 0 1 c.in-Ok-exchange.frames.known first c.in-Ok-judge_all.ensures.quiet.goes refl (omega arith) in
    record {
      does_so = record {
        ticked = c.tick.new.world;
        ticked_steps = c.tick.new.steps.items;
        tick = c.in-Ok.ensures.tick;
        heard = c.exchange.new.world;
        heard_steps = c.exchange.new.steps.items;
        exchanged = c.in-Ok-exchange.ensures.done.does_so;
        judged = c.judge_all.new.world;
        judged_steps = c.judge_all.new.steps.items;
        verdicts = c.in-Ok-judge_all.ensures.due;
        activations = c.in-Ok-activate_all.ensures.due;
      };
      goes =
          goes_sum c.args.world.now c.judge_all.new.world c.activate_all.new.world c.args.steps.now.items c.judge_all.new.steps.items c.activate_all.new.steps.items
          1 c.in-Ok-exchange.frames.known 0 0 1 c.in-Ok-exchange.frames.known second c.in-Ok-activate_all.ensures.quiet.goes refl (omega arith);
      few = c.in-Ok-exchange.ensures.done.few;
      counts = c.in-Ok-exchange.ensures.done.counts;
    }

pub exchange-requires-clause-within : goal.exchange-requires-clause-within
exchange-requires-clause-within g c =
    rw c.requires.all (drives_gain c.args.world.now c.args.steps.now.items c.tick.new.world c.tick.new.steps.items c.in-Ok.ensures.goes.drives)

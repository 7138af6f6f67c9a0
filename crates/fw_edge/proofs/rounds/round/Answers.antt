use Rattle.std.proofs.Common.{◌≡◌, ◌+◌, [], arith, length, map, refl}
use Rattle.fw_steps.specs.Worlds.{eids_of}
use Rattle.fw_edge.specs.Links.{links_at}
use Rattle.fw_edge.specs.Ledgers.{packet_counts}
use Rattle.fw_edge.proofs.Gaining.{drives_gain, fell_length}
use Rattle.fw_edge.proofs.Parts.{exchanged_read, stopped_reading, stopped_refused}
use Rattle.fw_edge.proofs.Rising.{map_length}
use Rattle.fw_edge.proofs.Turning.{came_with}
use Rattle.fw_edge.proofs.rounds.round.Goals as goal

pub returns-in-Err-clause-stopped : goal.returns-in-Err-clause-stopped
returns-in-Err-clause-stopped g c =
    stopped_refused g.L.Link.tally g.L.Link.taken g.L.Link.gave c.in-Err.fault c.args.world.now c.args.steps.now.items c.args.written.now c.args.links.now c.write_out.new.links c.in-Err.ensures.refused

pub returns-in-Err-read_round-clause-stopped : goal.returns-in-Err-read_round-clause-stopped
returns-in-Err-read_round-clause-stopped g c =
    stopped_reading g.L.Link.tally g.L.Link.taken g.L.Link.gave c.in-Err-read_round.fault c.args.world.now c.read_round.new.world c.args.steps.now.items c.read_round.new.steps.items c.args.written.now
    c.args.links.now c.write_out.new.links c.read_round.new.links c.in-Ok.ensures.wrote.kept c.in-Err-read_round.ensures.stopped

pub returns-clause-within : goal.returns-clause-within
returns-clause-within g c =
    rw c.in-Ok.ensures.out.all (drives_gain c.args.world.now c.args.steps.now.items c.read_round.new.world c.read_round.new.steps.items c.in-Ok-read_round.ensures.read.goes.drives)

pub read_round-requires-clause-devices : goal.read_round-requires-clause-devices
read_round-requires-clause-devices g c =
    let counts : length (packet_counts c.args.world.now.sites) ≡ length c.args.written.now = fell_length c.args.written.now (packet_counts c.args.world.now.sites) c.requires.within in
    let same : length (packet_counts c.args.world.now.sites) ≡ length c.args.world.now.sites = map_length (λ x. length x.packets) c.args.world.now.sites in
    omega (arith, c.requires.written, c.in-Ok.ensures.links)

pub returns-clause-done : goal.returns-clause-done
returns-clause-done g c = record {
  does_so = record {
    out = links_at c.write_out.new.written (map g.L.Link.taken c.write_out.new.links) (map g.L.Link.gave c.write_out.new.links);
    writes = c.in-Ok.ensures.out;
    came =
        came_with (length (eids_of c.args.world.now.sites)) (eids_of c.args.world.now.sites) c.args.world.now c.read_round.new.world c.args.steps.now.items c.read_round.new.steps.items [] c.write_out.new.written
        (map g.L.Link.taken c.write_out.new.links) (map g.L.Link.gave c.write_out.new.links) (map g.L.Link.taken c.read_round.new.links) (map g.L.Link.gave c.read_round.new.links)
        (c.in-Ok-read_round.frames.known + c.in-Ok-read_round.frames.foreign) c.in-Ok-read_round.ensures.read.came;
    wrote_none = refl;
  };
  goes = c.in-Ok-read_round.ensures.read.goes;
  few = c.in-Ok-read_round.ensures.read.few;
  counts =
      exchanged_read g.L.Link.tally 2 (c.in-Ok-read_round.frames.known + c.in-Ok-read_round.frames.foreign) c.args.written.now c.write_out.new.written c.args.links.now c.write_out.new.links c.read_round.new.links
      c.in-Ok.ensures.wrote c.in-Ok-read_round.ensures.read.counts;
}

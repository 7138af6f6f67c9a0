use Rattle.std.proofs.Common.{◌<◌, ◌+◌, ◌*◌, map}
use Rattle.fw_edge.specs.Drives.{DrivesCounted}
use Rattle.fw_edge.specs.Ledgers.{NoCountFalls, packet_counts}
use Rattle.fw_steps.specs.Worlds.{eids_of}
use Rattle.fw_edge.specs.Links.{links_at}
use Rattle.fw_edge.specs.Outcomes.{LinksExchangeOk}
use Rattle.fw_edge.specs.Turns.{RoundsOn}
use Rattle.fw_edge.proofs.rounds.rounds.Given as goal

-- no link failed, and few frames were received
abbrev pub invariant-loop : goal.invariant-loop
invariant-loop g l = record {
  goes : DrivesCounted l.fn.world l.fn.steps.items l.world l.steps.items 0 l.frames.known;
  on : RoundsOn (eids_of l.fn.world.sites) l.counter l.fn.world l.fn.steps.items (links_at l.fn.written (map g.L.Link.taken l.fn.links) (map g.L.Link.gave l.fn.links)) l.world l.steps.items (links_at l.written (map g.L.Link.taken l.links) (map g.L.Link.gave l.links)) (l.frames.known + l.frames.foreign);
  few : l.frames.known + l.frames.foreign < 1024;
  counts : LinksExchangeOk g.L.Link.tally (2 * l.counter) (l.frames.known + l.frames.foreign) l.fn.written l.written l.fn.links l.links;
  within : NoCountFalls l.written (packet_counts l.world.sites);
}

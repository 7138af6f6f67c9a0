use Rattle.std.proofs.Common.{◌≡◌, ◌≤◌, ◌+◌, ◌*◌, length, map, true}
use Rattle.fw_edge.specs.Drives.{Drives, all_over, ticks_in}
use Rattle.fw_edge.specs.Ledgers.{packet_counts}
use Rattle.fw_edge.specs.Links.{links_at}
use Rattle.fw_edge.specs.Outcomes.{LinksDriveOk, read_at}
use Rattle.fw_edge.specs.Turns.{DrivesTurns}
use Rattle.fw_edge.proofs.driving.take_turns.Given as goal

-- `count` turns were taken
abbrev pub invariant-loop-count : goal.invariant-loop-count
invariant-loop-count g l = record {
  drives : Drives l.fn.world l.fn.steps.items l.world l.steps.items;
  drove : DrivesTurns l.count l.fn.world l.fn.steps.items (links_at l.fn.written (map g.L.Link.taken l.fn.links) (map g.L.Link.gave l.fn.links)) l.world l.steps.items (links_at l.written (map g.L.Link.taken l.links) (map g.L.Link.gave l.links)) l.foreign;
  over : all_over l.fn.world ≡ true → (l.world ≡ l.fn.world) × (l.steps.items ≡ l.fn.steps.items);
  ticks : ticks_in l.steps.items ≡ ticks_in l.fn.steps.items + l.count;
  same : length l.links ≡ length l.fn.links;
  written : length l.written ≡ length l.links;
  few : l.foreign ≤ 1055 * l.count;
  counts : LinksDriveOk g.L.Link.tally l.count (read_at l.fn.world l.fn.steps.items l.fn.links) (read_at l.world l.steps.items l.links) l.foreign;
  all : l.written ≡ packet_counts l.world.sites;
}

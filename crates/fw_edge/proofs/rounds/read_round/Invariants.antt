use Rattle.std.proofs.Common.{[], ◌≡◌, ◌≤◌, ◌+◌, ◌*◌, drop, map}
use Rattle.fw_edge.specs.Drives.{DrivesCounted}
use Rattle.fw_edge.specs.Ledgers.{CountsGrowTogether}
use Rattle.fw_edge.proofs.Rising.{RoseBefore}
use Rattle.fw_steps.specs.Worlds.{eids_of}
use Rattle.fw_edge.specs.Links.{links_at}
use Rattle.fw_edge.specs.Turns.{ReadsAllEnds}
use Rattle.fw_edge.proofs.rounds.read_round.Given as goal

-- no link failed, at most two frames were received over each, and the links after the place are
-- unchanged
abbrev pub invariant-loop-place : goal.invariant-loop-place
invariant-loop-place g l = record {
  goes : DrivesCounted l.fn.world l.fn.steps.items l.world l.steps.items 0 l.frames.known;
  came : ReadsAllEnds l.place (eids_of l.fn.world.sites) l.fn.world l.fn.steps.items (links_at [] (map g.L.Link.taken l.fn.links) (map g.L.Link.gave l.fn.links)) l.world l.steps.items (links_at [] (map g.L.Link.taken l.links) (map g.L.Link.gave l.links)) (l.frames.known + l.frames.foreign);
  behind : drop l.place l.links ≡ drop l.place l.fn.links;
  few : l.frames.known + l.frames.foreign ≤ 2 * l.place;
  kept : map (λ k. (g.L.Link.tally k).failures) l.links ≡ map (λ k. (g.L.Link.tally k).failures) l.fn.links;
  asked : RoseBefore 2 l.place (map (λ k. (g.L.Link.tally k).asked) l.fn.links) (map (λ k. (g.L.Link.tally k).asked) l.links);
  given : CountsGrowTogether (l.frames.known + l.frames.foreign) (map (λ k. (g.L.Link.tally k).given) l.fn.links) (map (λ k. (g.L.Link.tally k).given) l.links);
  sent : map (λ k. (g.L.Link.tally k).sent) l.links ≡ map (λ k. (g.L.Link.tally k).sent) l.fn.links;
}

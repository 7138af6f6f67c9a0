use Rattle.std.proofs.Common.{◌≡◌, length, take, true}
use Rattle.fwupd_jobs.specs.Updated.{HaveLinks, IsRoughLink}
use Rattle.fwupd_jobs.proofs.updating.open_all.Given as goal

-- a link for each device so far
abbrev pub invariant-loop-place : goal.invariant-loop-place
invariant-loop-place g l = record {
  count : length l.links.items ≡ l.place;
  each : HaveLinks (λ unit device link. g.S.Wires.is_to unit l.folder device link.link ≡ true) (take l.place l.world.sites) l.links.items;
  rough : HaveLinks (λ unit device link. IsRoughLink l.roughness device link.roughness link.generator) (take l.place l.world.sites) l.links.items;
  same : g.S.Wires.lacks l.wires ≡ g.S.Wires.lacks l.fn.wires;
}

use Rattle.std.proofs.Common.{◌≡◌, map, take}
use Rattle.std.specs.List.{AllByRecursion}
use Rattle.fwupd_jobs.proofs.updating.lost_device.Given as goal

-- none of the links before the place has failed
abbrev pub invariant-loop-place : goal.invariant-loop-place
invariant-loop-place g l = AllByRecursion (λ n. n ≡ 0) (take l.place (map (λ k. (g.L.Link.tally k).failures) l.links))

use Rattle.std.proofs.Common.{◌≡◌, ◌++◌, map, take}
use Rattle.std.specs.List.{concat}
use Rattle.fwupd_jobs.proofs.building.whole.Given as goal

-- the header and the images so far
abbrev pub invariant-loop-image : goal.invariant-loop-image
invariant-loop-image l = l.bytes.items ≡ l.header ++ concat (map (λ i. i.items) (take l.image-index l.images))

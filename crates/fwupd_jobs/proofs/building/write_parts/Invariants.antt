use Rattle.std.proofs.Common.{◌++◌, map, take}
use Rattle.std.specs.Io.KnownBytes.{Appends}
use Rattle.std.specs.List.{concat}
use Rattle.fwupd_jobs.proofs.building.write_parts.Given as goal

-- the header and the images so far are written
abbrev pub invariant-loop-image : goal.invariant-loop-image
invariant-loop-image g l = Appends (g.W.Write.contents l.fn.writer) (g.W.Write.contents l.writer) (l.header ++ concat (map (λ i. i.items) (take l.image-index l.images)))

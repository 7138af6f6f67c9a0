use Rattle.std.proofs.Common.{map, take}
use Rattle.std.specs.List.{AllByRecursion}
use Rattle.fwupd_base.specs.ImageFiles.{image_file}
use Rattle.fwupd_watch.specs.Files.{IsApartFrom}
use Rattle.fwupd_watch.specs.Inputs.{image_paths}
use Rattle.fwupd_watch.proofs.files.is_image.Given as goal

-- the output doesn't overwrite the files before the index
abbrev pub invariant-loop-image : goal.invariant-loop-image
invariant-loop-image g l = AllByRecursion (IsApartFrom (g.F.Files.holds l.files) l.path) (image_paths (map image_file (take l.image-index l.images)))

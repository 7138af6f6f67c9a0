use Rattle.std.proofs.Common.{map, take}
use Rattle.std.specs.List.{AllByRecursion}
use Rattle.std.specs.Prelude.{string_bytes}
use Rattle.fwupd_watch.specs.Files.{IsApartFrom}
use Rattle.fwupd_watch.proofs.files.is_one_of.Given as goal

-- the output doesn't overwrite the paths before the index
abbrev pub invariant-loop-other : goal.invariant-loop-other
invariant-loop-other g l = AllByRecursion (IsApartFrom (g.F.Files.holds l.files) l.path) (map (λ p. string_bytes p) (take l.other-index l.others))

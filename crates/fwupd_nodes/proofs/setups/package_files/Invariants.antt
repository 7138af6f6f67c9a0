use Rattle.std.proofs.Common.{map, take}
use Rattle.std.specs.Prelude.{string_bytes}
use Rattle.fwupd_nodes.specs.Setups.{ArePacked}
use Rattle.fwupd_nodes.proofs.setups.package_files.Given as goal

-- the files read so far are packages
abbrev pub invariant-loop-path : goal.invariant-loop-path
invariant-loop-path g l = ArePacked (g.F.Files.holds l.files) (map (λ p. string_bytes p) (take l.path-index l.paths)) (map (λ f. f.items) l.contents.items)

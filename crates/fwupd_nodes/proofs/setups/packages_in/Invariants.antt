use Rattle.std.proofs.Common.{◌≡◌, Ok, map, take}
use Rattle.fw_package.specs.Reading.{package_of}
use Rattle.fwupd_nodes.proofs.setups.packages_in.Given as goal

-- the packages so far
abbrev pub invariant-loop-bytes : goal.invariant-loop-bytes
invariant-loop-bytes l = map (λ p. Ok p) l.packages.items ≡ map (λ f. package_of f.items) (take l.bytes-index l.contents)

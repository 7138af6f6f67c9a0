use Rattle.std.proofs.Common.{◌≡◌, map, take}
use Rattle.agent_store.specs.Packages.{packages_text}
use Rattle.agent_store.proofs.packages.packages_text.Given as goal

-- the lines of the packages so far are there
abbrev pub invariant-loop-package : goal.invariant-loop-package
invariant-loop-package l = l.text.items ≡ packages_text (map (λ p. p.items) (take l.package-index l.packages))

use Rattle.std.proofs.Common.{◌≡◌, map, take}
use Rattle.std.specs.List.{sum_by}
use Rattle.fw_package.specs.Asked.{asked_component_of}
use Rattle.fw_package.specs.Views.{capped_number}
use Rattle.fw_package.proofs.measures.images_size.Given as goal

-- the size so far
abbrev pub invariant-loop-component : goal.invariant-loop-component
invariant-loop-component l = l.size ≡ capped_number (sum_by (λ c. c.size) (map asked_component_of (take l.component-index l.components)))

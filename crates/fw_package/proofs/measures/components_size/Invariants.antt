use Rattle.std.proofs.Common.{◌≡◌, map, take}
use Rattle.std.specs.List.{sum_by}
use Rattle.fw_package.specs.Asked.{asked_component_of, component_size}
use Rattle.fw_package.specs.Views.{capped_number}
use Rattle.fw_package.proofs.measures.components_size.Given as goal

-- the size so far
abbrev pub invariant-loop-component : goal.invariant-loop-component
invariant-loop-component l = l.size ≡ capped_number (sum_by component_size (map asked_component_of (take l.component-index l.components)))

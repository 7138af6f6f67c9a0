use Rattle.std.proofs.Common.{◌≡◌, drop, map}
use Rattle.std.specs.List.{list_all}
use Rattle.fw_package.specs.Asked.{asked_component_of, component_fits}
use Rattle.fw_package.proofs.measures.components_fit.Given as goal

-- the components left decide
abbrev pub invariant-loop-component : goal.invariant-loop-component
invariant-loop-component l = list_all component_fits (map asked_component_of (drop l.component-index l.components)) ≡ list_all component_fits (map asked_component_of l.components)

use Rattle.std.specs.List.{AllByRecursion}
use Rattle.fw_steps.specs.Widths.{HasPlannedWidths}
use Rattle.fw_steps.proofs.fitting.package_components_fit.Given as goal

-- if all components that are left fit, all fit
abbrev pub invariant-loop-component : goal.invariant-loop-component
invariant-loop-component l = record {
  all : AllByRecursion HasPlannedWidths l.component-iterator → AllByRecursion HasPlannedWidths l.fn.components;
}

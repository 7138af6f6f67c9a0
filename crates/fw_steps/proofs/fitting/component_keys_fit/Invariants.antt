use Rattle.std.proofs.Common.{drop}
use Rattle.std.specs.List.{AllByRecursion}
use Rattle.fw_steps.specs.Widths.{HasKeyAndLabelWidths}
use Rattle.fw_steps.proofs.fitting.component_keys_fit.Given as goal

-- if all components that are left fit, all fit
abbrev pub invariant-loop-component : goal.invariant-loop-component
invariant-loop-component g l = AllByRecursion (HasKeyAndLabelWidths (g.B.Bank.rows l.bank)) (drop l.component-index l.components) → AllByRecursion (HasKeyAndLabelWidths (g.B.Bank.rows l.bank)) l.components

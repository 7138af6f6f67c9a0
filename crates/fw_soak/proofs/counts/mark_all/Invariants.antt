use Rattle.std.proofs.Common.{◌≡◌, drop}
use Rattle.fw_soak.specs.Counts.{marked_along}
use Rattle.fw_soak.proofs.counts.mark_all.Given as goal

-- marking by the remaining steps gives the result of marking by all steps
abbrev pub invariant-loop-step : goal.invariant-loop-step
invariant-loop-step l = marked_along l.device l.marks (drop l.step-index l.steps) ≡ marked_along l.device l.fn.marks l.steps

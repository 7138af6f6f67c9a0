use Rattle.std.proofs.Common.{◌≡◌, drop}
use Rattle.fw_soak.specs.Counts.{no_update, update_along}
use Rattle.fw_soak.proofs.counts.longest_of.Given as goal

-- applying the remaining steps gives the result of applying all steps
abbrev pub invariant-loop-step : goal.invariant-loop-step
invariant-loop-step l = update_along l.device l.update (drop l.step-index l.steps) ≡ update_along l.device no_update l.steps

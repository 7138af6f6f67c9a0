use Rattle.std.proofs.Common.{◌≡◌, ◌≤◌, ◌+◌, drop}
use Rattle.fw_soak.specs.Counts.{restarts_in}
use Rattle.fw_soak.proofs.counts.restarts.Given as goal

-- the count so far, and the remaining steps
abbrev pub invariant-loop-step : goal.invariant-loop-step
invariant-loop-step l = record {
  counted : l.count + restarts_in (drop l.step-index l.steps) ≡ restarts_in l.steps;
  within : l.count ≤ l.step-index;
}

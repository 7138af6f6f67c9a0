-- The law of the banks' counts of failures.
use Rattle.std.specs.Prelude.{ℕ, ◌≡◌, IfSome, false}
use Rattle.fw_steps.specs.BankCalls.{step_calls_bank}
use Rattle.fw_steps.specs.Promises.{IsReached}
use Rattle.fw_steps.specs.Steps.{StepsTo}
use Rattle.fw_steps.specs.Isolation.{faults_at}
use Rattle.fw_steps.specs.Worlds.{WorldOf, pair_for}
use Rattle.fw_steps.specs.declared.step.Step.{Step}

-- A count of failures changes only if a bank is called: a step that calls none leaves each device's
-- count.
abbrev pub CountsNeedCalls : Type 0
CountsNeedCalls = (w v : WorldOf) (s : Step) → IsReached w → StepsTo w s v → step_calls_bank w s ≡ false
    → (device : ℕ) → IfSome (pair_for w device) (λ m. faults_at v device ≡ faults_at w device)

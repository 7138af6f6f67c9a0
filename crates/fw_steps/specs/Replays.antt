-- The reason why a step isn't taken, which stops a replay; and the steps that need memory.
use Rattle.std.specs.Prelude.{◌≡◌, ◌⊎◌, Bool, true, false, Some, None}
use Rattle.fw_steps.specs.Steps.{may_step}
use Rattle.fd_core.specs.declared.states.Verdict.{Verdict}
use Rattle.fd_core.specs.declared.states.Verdict.TheVariants as verdicts
use Rattle.fw_steps.specs.Worlds.{WorldOf}
use Rattle.fw_steps.specs.declared.step.Step.{Step}
use Rattle.fw_steps.specs.declared.step.Step.TheVariants as steps
use Rattle.fw_steps.specs.declared.step.StepFault.{StepFault}
use Rattle.fw_steps.specs.declared.step.StepFault.TheVariants as faults

-- only the verdict ApplyOk adds an entry to the history
abbrev pub adds_entry : Verdict → Bool
adds_entry verdicts.ApplyOk = true
adds_entry verdict = false

-- a step that adds packets, entries of the history or records of a session needs memory for them
abbrev pub needs_memory : Step → Bool
needs_memory (steps.Deliver device number node) = true
needs_memory (steps.Tick missed) = true
needs_memory (steps.Start device number) = true
needs_memory (steps.Verdict device verdict) = adds_entry verdict
needs_memory s = false

-- The reason why a step isn't taken: it may not be taken, for this cause; or it may, and memory
-- that it needs is refused.
abbrev pub RefusesStep : WorldOf → Step → StepFault → Type 0
RefusesStep w s e = (may_step w s ≡ Some e) ⊎ ((e ≡ faults.Memory) × (needs_memory s ≡ true) × (may_step w s ≡ None))

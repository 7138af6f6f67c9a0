-- A replay keeps time over the steps that it took.
use Rattle.std.proofs.Common.{◌≡◌, ◌<◌, ℕ, true, length, List, slice_get, take, IfErr, IfSome, OnOk, Result, Ok, Err}
use Rattle.fw_steps.specs.Clocks.{KeepsTime, RunsKeepTime}
use Rattle.fw_steps.specs.Promises.{IsReached}
use Rattle.fw_steps.specs.Steps.{Run, is_node}
use Rattle.fw_steps.specs.Replays.{RefusesStep}
use Rattle.fw_steps.specs.Worlds.{WorldOf}
use Rattle.fw_steps.specs.declared.step.Step.{Step}
use Rattle.fw_steps.specs.declared.step.StepFault.{StepFault}

pub keeps_when : {A E : Type 0} (r : Result A E) (w v : WorldOf) (ss : List Step) → IsReached w → RunsKeepTime → OnOk r (Run w ss v) → OnOk r ((eid : ℕ) → is_node w eid ≡ true → KeepsTime eid ss)
keeps_when (Ok a) w v ss k law run = λ eid known. law k.opening w v k.before ss k.opens k.run run eid known
keeps_when (Err e) w v ss k law run = tt

pub keeps_until : {A : Type 0} (r : Result A (ℕ × StepFault)) (w v : WorldOf) (ss : List Step) → IsReached w → RunsKeepTime
    → IfErr r (λ e. (e.0 < length ss) × Run w (take e.0 ss) v × IfSome (slice_get ss e.0) (λ s. RefusesStep v s e.1))
    → IfErr r (λ e. (eid : ℕ) → is_node w eid ≡ true → KeepsTime eid (take e.0 ss))
keeps_until (Ok a) w v ss k law run = tt
keeps_until (Err e) w v ss k law run = λ eid known. law k.opening w v k.before (take e.0 ss) k.opens k.run run.1 eid known

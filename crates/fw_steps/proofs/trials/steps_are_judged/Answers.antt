use Rattle.fw_steps.proofs.StepCases.{concerns_are_judged, memory_is_judged}
use Rattle.fw_steps.proofs.trials.steps_are_judged.Goals as goal

pub returns : goal.returns
returns c = record { concerns = concerns_are_judged; memory = memory_is_judged }

use Rattle.fw_steps.proofs.WorldCases.{worlds_are_judged}
use Rattle.fw_steps.proofs.trials.worlds_are_judged.Goals as goal

pub returns : goal.returns
returns c = worlds_are_judged

use Rattle.fw_message.proofs.Cases.{histories_are_judged}
use Rattle.fw_message.proofs.laws.histories_are_judged.Goals as goal

pub returns : goal.returns
returns c = histories_are_judged

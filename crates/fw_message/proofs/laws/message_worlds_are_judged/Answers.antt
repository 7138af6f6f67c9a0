use Rattle.fw_message.proofs.WorldCases.{message_worlds_are_judged}
use Rattle.fw_message.proofs.laws.message_worlds_are_judged.Goals as goal

pub returns : goal.returns
returns c = message_worlds_are_judged

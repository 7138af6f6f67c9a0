use Rattle.fw_message.proofs.BankCalls.{pair_steps_depend}
use Rattle.fw_message.proofs.laws.bank_calls_decide.Goals as goal

pub returns : goal.returns
returns c = pair_steps_depend

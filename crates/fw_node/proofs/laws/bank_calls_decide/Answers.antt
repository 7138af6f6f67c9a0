use Rattle.fw_node.proofs.BankCalls.{packets_depend}
use Rattle.fw_node.proofs.laws.bank_calls_decide.Goals as goal

pub returns : goal.returns
returns c = packets_depend

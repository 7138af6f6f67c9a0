use Rattle.fd_core.proofs.BankCalls.{answers_depend, commands_depend, verdicts_depend}
use Rattle.fd_core.proofs.laws.bank_calls_decide.Goals as goal

pub returns : goal.returns
returns c = record { commands = commands_depend; answers = answers_depend; verdicts = verdicts_depend }

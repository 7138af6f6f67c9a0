use Rattle.mctp_serial.proofs.Recovering.{loses_one_law, loses_two_law}
use Rattle.mctp_serial.proofs.laws.recovers_after_noise.Goals as goal

pub returns-clause-one : goal.returns-clause-one
returns-clause-one c = loses_one_law

pub returns-clause-two : goal.returns-clause-two
returns-clause-two c = loses_two_law

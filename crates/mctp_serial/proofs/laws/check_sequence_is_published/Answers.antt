use Rattle.mctp_serial.proofs.CheckValue.{check_value}
use Rattle.mctp_serial.proofs.laws.check_sequence_is_published.Goals as goal

pub returns : goal.returns
returns c = record { value = check_value }

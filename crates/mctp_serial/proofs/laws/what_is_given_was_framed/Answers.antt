use Rattle.mctp_serial.proofs.Giving.{gives_framed_law}
use Rattle.mctp_serial.proofs.laws.what_is_given_was_framed.Goals as goal

pub returns : goal.returns
returns c = record { framed = gives_framed_law }

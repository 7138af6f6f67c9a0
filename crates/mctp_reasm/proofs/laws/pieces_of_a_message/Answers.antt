use Rattle.mctp_reasm.proofs.Feeding.{pieces_of_a_message}
use Rattle.mctp_reasm.proofs.laws.pieces_of_a_message.Goals as goal

pub returns : goal.returns
returns c = pieces_of_a_message

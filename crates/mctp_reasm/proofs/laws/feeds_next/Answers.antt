use Rattle.mctp_reasm.proofs.Feeding.{feeds_next}
use Rattle.mctp_reasm.proofs.laws.feeds_next.Goals as goal

pub returns : goal.returns
returns c = feeds_next

use Rattle.mctp_reasm.proofs.Feeding.{feeds_other}
use Rattle.mctp_reasm.proofs.laws.feeds_other.Goals as goal

pub returns : goal.returns
returns c = feeds_other

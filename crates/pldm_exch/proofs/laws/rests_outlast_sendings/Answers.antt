use Rattle.pldm_exch.proofs.CallerLaws.{outlast}
use Rattle.pldm_exch.proofs.laws.rests_outlast_sendings.Goals as goal

pub returns : goal.returns
returns c = outlast

use Rattle.pldm_exch.proofs.CallerLaws.{stay_lawful}
use Rattle.pldm_exch.proofs.laws.callers_stay_lawful.Goals as goal

pub returns : goal.returns
returns c = stay_lawful

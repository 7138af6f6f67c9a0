use Rattle.pldm_exch.proofs.Keeping.{stay_lawful}
use Rattle.pldm_exch.proofs.laws.answers_stay_lawful.Goals as goal

pub returns : goal.returns
returns c = stay_lawful

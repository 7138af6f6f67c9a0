use Rattle.pldm_exch.proofs.Keeping.{change}
use Rattle.pldm_exch.proofs.laws.kept_change.Goals as goal

pub returns : goal.returns
returns c = change

use Rattle.pldm_exch.proofs.CallerLaws.{change}
use Rattle.pldm_exch.proofs.laws.rests_change.Goals as goal

pub returns : goal.returns
returns c = change

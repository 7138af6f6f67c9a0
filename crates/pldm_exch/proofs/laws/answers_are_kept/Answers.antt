use Rattle.pldm_exch.proofs.Keeping.{are_kept}
use Rattle.pldm_exch.proofs.laws.answers_are_kept.Goals as goal

pub returns : goal.returns
returns c = are_kept

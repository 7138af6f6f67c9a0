use Rattle.pldm_exch.proofs.Keeping.{repeats}
use Rattle.pldm_exch.proofs.laws.repeats_answer_the_request.Goals as goal

pub returns : goal.returns
returns c = repeats

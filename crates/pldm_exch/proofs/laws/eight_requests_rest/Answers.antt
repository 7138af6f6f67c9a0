use Rattle.pldm_exch.proofs.CallerLaws.{eight}
use Rattle.pldm_exch.proofs.laws.eight_requests_rest.Goals as goal

pub returns : goal.returns
returns c = eight

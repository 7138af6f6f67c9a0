use Rattle.pldm_exch.proofs.CallerLaws.{repeat}
use Rattle.pldm_exch.proofs.laws.open_requests_repeat.Goals as goal

pub returns : goal.returns
returns c = repeat

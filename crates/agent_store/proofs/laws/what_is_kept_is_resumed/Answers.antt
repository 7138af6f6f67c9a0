use Rattle.agent_store.proofs.GivenBack.{given_back}
use Rattle.agent_store.proofs.laws.what_is_kept_is_resumed.Goals as goal

pub returns : goal.returns
returns c = given_back

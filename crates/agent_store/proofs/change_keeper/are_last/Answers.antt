use Rattle.agent_store.proofs.Same.{are_same}
use Rattle.agent_store.proofs.change_keeper.are_last.Goals as goal

pub returns-in-Some : goal.returns-in-Some
returns-in-Some c = λ equal. rw c.in-Some.is (are_same c.eq.result c.as_slice.result.now _ _ c.eq.ensures c.as_slice.ensures.value equal)

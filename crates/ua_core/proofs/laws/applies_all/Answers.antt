use Rattle.ua_core.proofs.AllApplied.{applies_all, learns_nowhere}
use Rattle.ua_core.proofs.laws.applies_all.Goals as goal

pub returns : goal.returns
returns c = record { served = applies_all; learnt = learns_nowhere }

-- Runs of the world, one after another.
use Rattle.std.proofs.Common.{◌++◌, List, [], ◌∷◌, subst}
use Rattle.fw_steps.specs.Steps.{Run}
use Rattle.fw_steps.specs.Worlds.{WorldOf}
use Rattle.fw_steps.specs.declared.step.Step.{Step}

-- a run followed by a run is a run
pub run_append : (w v u : WorldOf) (ss ts : List Step) → Run w ss v → Run v ts u → Run w (ss ++ ts) u
run_append w v u [] ts e k = subst (λ x. Run x ts u) e k
run_append w v u (s ∷ ss) ts h k = (h.0, h.1, run_append h.0 v u ss ts h.2 k)

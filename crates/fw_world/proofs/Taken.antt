-- The steps that a replay took: one more, and all of them.
use Rattle.std.proofs.Common.{◌<◌, ◌+◌, ℕ, List, [], ◌∷◌, length, take, get_or, refl, subst, sym}
use Rattle.std.specs.Prelude.{IsOk, OnOk, Result, Ok, Err}
use Rattle.std.proofs.lemmas.List.{take_more}
use Rattle.fw_steps.specs.Steps.{StepsTo, Run}
use Rattle.fw_steps.specs.Worlds.{WorldOf}
use Rattle.fw_steps.specs.declared.step.Step.{Step}
use Rattle.fw_steps.proofs.Running.{run_append}

-- one more step
pub run_next : (w v u : WorldOf) (ss : List Step) (i : ℕ) (s : Step) → i < length ss → Run w (take i ss) v → StepsTo v (get_or ss i s) u → Run w (take (i + 1) ss) u
run_next w v u ss i s lt h k =
    subst (λ xs. Run w xs u) (sym (take_more ss i s lt)) (run_append w v u (take i ss) (get_or ss i s ∷ []) h (u, k, refl))

-- the clause for an Ok result, if the result is Ok
pub all_taken : {A E : Type 0} (r : Result A E) (P : Type 0) → IsOk r → OnOk r P → P
all_taken (Ok x) P is k = k
all_taken (Err e) P is k = absurd (cc)

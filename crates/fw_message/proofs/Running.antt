-- Runs of a world by its named steps.
use Rattle.std.proofs.Common.{◌≡◌, ◌∷◌, ◌++◌, ◌+◌, ◌<◌, ℕ, List, [], length, take, Option, Some, refl, subst, sym}
use Rattle.std.specs.Prelude.{IfSome, get_or}
use Rattle.std.proofs.lemmas.List.{take_more}
use Rattle.fw_message.specs.Replays.{CountedWorldOf, StepsToCounted, MessageRun}
use Rattle.fw_message.specs.WorldLaws.{IsOpeningMessageWorld, IsSafeMessageWorld, WorldsAreSafe}
use Rattle.fw_message.specs.Worlds.{MessageWorldOf, WorldStepOf, named_step, world_along}
use Rattle.fw_message.specs.declared.step.MessageStep.{MessageStep}

-- a run goes on by one step
run_more : (w v u : CountedWorldOf) (ss : List MessageStep) (s : MessageStep) → MessageRun w ss v → StepsToCounted v s u → MessageRun w (ss ++ s ∷ []) u
run_more w v u [] s h l = let P : CountedWorldOf → Type 0 = λ x. StepsToCounted x s u in (u, subst P h l, refl)
run_more w v u (t ∷ ss) s h l = (h.0, h.1, run_more h.0 v u ss s h.2 l)

pub run_next : (w v u : CountedWorldOf) (ss : List MessageStep) (i : ℕ) (d : MessageStep) → i < length ss → MessageRun w (take i ss) v → StepsToCounted v (get_or ss i d) u → MessageRun w (take (i + 1) ss) u
run_next w v u ss i d lt h l = rw (take_more ss i d lt) (run_more w v u (take i ss) (get_or ss i d) h l)

-- two runs, one after the other
pub run_append : (w v u : CountedWorldOf) (ss ts : List MessageStep) → MessageRun w ss v → MessageRun v ts u → MessageRun w (ss ++ ts) u
run_append w v u [] ts h k = let P : CountedWorldOf → Type 0 = λ x. MessageRun x ts u in subst P h k
run_append w v u (s ∷ ss) ts h k = (h.0, h.1, run_append h.0 v u ss ts h.2 k)

-- the steps of a run, each with whether the bank worked
pub record Along (w v : CountedWorldOf) : Type 0 where
  pub steps : List WorldStepOf
  pub along : world_along (Some w.world) steps ≡ Some v.world

pub taken_along : (w v : CountedWorldOf) (ss : List MessageStep) → MessageRun w ss v → Along w v
taken_along w v [] h = let P : CountedWorldOf → Type 0 = λ x. Along w x in subst P (sym h) (record { steps = []; along = refl })
taken_along w v (s ∷ ss) h =
    let rest : Along h.0 v = taken_along h.0 v ss h.2 in
    let P : Option MessageWorldOf → Type 0 = λ o. world_along o rest.steps ≡ Some v.world in
    record { steps = named_step w.world.agent h.1.works s ∷ rest.steps; along = subst P (sym h.1.after) rest.along }

-- a run from an opening world is safe
pub run_safe : WorldsAreSafe → (opening w : CountedWorldOf) (ss : List MessageStep) → IsOpeningMessageWorld opening.world → MessageRun opening ss w → IsSafeMessageWorld opening.world w.world
run_safe law opening w ss begins h =
    let a : Along opening w = taken_along opening w ss h in
    let safe : IfSome (world_along (Some opening.world) a.steps) (IsSafeMessageWorld opening.world) = law opening.world a.steps begins in
    let P : Option MessageWorldOf → Type 0 = λ o. IfSome o (IsSafeMessageWorld opening.world) in
    subst P a.along safe

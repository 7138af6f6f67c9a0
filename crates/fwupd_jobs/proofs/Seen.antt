-- Steps that are taken and observed one by one.
use Rattle.std.proofs.Common.{◌≡◌, ◌<◌, ◌≤◌, ◌+◌, ◌-◌, ◌^◌, ◌∙◌, ℕ, suc, List, [], ◌∷◌, Some, IfSome, drop, length, take, get_or, inl, inr, subst, sym, ap, refl, arith}
use Rattle.std.proofs.Math.Seq.{drop-cons}
use Rattle.std.proofs.lemmas.List.{length-drop, take_all, take_more}
use Rattle.std.proofs.lemmas.Option.{slice_get_read}
use Rattle.fw_edge.proofs.Going.{run_append}
use Rattle.fw_edge.specs.Links.{CountsOne}
use Rattle.fw_steps.specs.Steps.{StepsTo, Run}
use Rattle.fw_steps.specs.Worlds.{WorldOf}
use Rattle.fw_steps.specs.Replays.{RefusesStep}
use Rattle.fw_steps.specs.declared.step.Step.{Step}
use Rattle.fw_steps.specs.declared.step.StepFault.{StepFault}
use Rattle.std.specs.List.{slice_get}

-- a count that rises from a value that isn't its last
pub rises_to : (old new i : ℕ) → old ≡ i → i < 2 ^ 64 - 1 → CountsOne old new → new ≡ i + 1
rises_to old new i is few (inl more) = more ∙ ap (λ n. n + 1) is
rises_to old new i is few (inr last) = absurd (let top : old ≡ 2 ^ 64 - 1 = last.0 in omega arith)

-- one more step
pub step_taken : (w v u : WorldOf) (ss : List Step) (i : ℕ) (s : Step) → i < length ss → Run w (take i ss) v → StepsTo v (get_or ss i s) u → Run w (take (i + 1) ss) u
step_taken w v u ss i s lt h k = subst (λ xs. Run w xs u) (sym (take_more ss i s lt)) (run_append w v u (take i ss) (get_or ss i s ∷ []) h (u, k, refl))

-- the first of the remaining steps
pub record IsNext (all : List Step) (i : ℕ) (s : Step) (rest : List Step) : Type 0 where
  pub within : i < length all
  pub here : s ≡ get_or all i s
  pub left : drop (suc i) all ≡ rest

pub next_step : (all : List Step) (i : ℕ) (s : Step) (rest : List Step) → drop i all ≡ s ∷ rest → IsNext all i s rest
next_step all i s rest h =
    let long : length all - i ≡ suc (length rest) = sym (length-drop i all) ∙ ap length h in
    let within : i < length all = omega (arith, long) in
    let both : get_or all i s ∷ drop (suc i) all ≡ s ∷ rest = sym (drop-cons all i s within) ∙ h in
    record { within = within; here = cc; left = cc }

-- one more of the remaining steps
pub stepped_on : (w v u : WorldOf) (all : List Step) (i : ℕ) (s : Step) (rest : List Step) → Run w (take i all) v → drop i all ≡ s ∷ rest → StepsTo v s u → Run w (take (i + 1) all) u
stepped_on w v u all i s rest run h leads =
    let next = next_step all i s rest h in
    step_taken w v u all i s next.within run (subst (λ x. StepsTo v x u) next.here leads)

-- the first of the remaining steps is refused
pub stopped_at : (w v : WorldOf) (all : List Step) (i : ℕ) (s : Step) (rest : List Step) (fault : StepFault) → Run w (take i all) v → drop i all ≡ s ∷ rest → RefusesStep v s fault
    → (i < length all) × Run w (take i all) v × IfSome (slice_get all i) (λ s. RefusesStep v s fault)
stopped_at w v all i s rest fault run h refused =
    let next = next_step all i s rest h in
    let found : slice_get all i ≡ Some s = slice_get_read all (length all) i s refl next.within next.here in
    (next.within, run, rw found refused)

-- no step remains
pub none_left : (all : List Step) (i : ℕ) → drop i all ≡ [] → i ≤ length all → (take i all ≡ all) × (i ≡ length all)
none_left all i h few =
    let none : length all - i ≡ 0 = sym (length-drop i all) ∙ ap length h in
    (take_all i all (omega (arith, none)), omega (arith, none, few))

-- The cell of a lane after some steps.
use Rattle.std.proofs.Common.{◌≡◌, ◌∙◌, ◌≤◌, ℕ, List, [], ◌∷◌, ◌++◌, length, take, Some, IsSomeAnd, sym, refl, subst, ap}
use Rattle.std.proofs.lemmas.List.{take_all}
use Rattle.exch_lane.specs.Cells.{cells_along, no_cell_yet}
use Rattle.exch_lane.specs.Lanes.{LaneOf, LaneStepOf, lane_new, lane_steps_of}
use Rattle.exch_lane.specs.Laws.{IsCellOf, KeepsItsCell, LaneIsACell}
use Rattle.exch_lane.specs.Steps.{MayRun, lane_after, lane_run}
use Rattle.exch_lane.specs.declared.step.LaneStep.{LaneStep}
use Rattle.exch_lane.proofs.Running.{Ran}

-- consecutive runs
may_append : (w : LaneOf) (ss ts : List LaneStepOf) → MayRun w ss → MayRun (lane_run w ss) ts → MayRun w (ss ++ ts)
may_append w [] ts may more = more
may_append w (s ∷ ss) ts may more = (may.0, may_append (lane_after w s) ss ts may.1 more)

run_append : (w : LaneOf) (ss ts : List LaneStepOf) → lane_run w (ss ++ ts) ≡ lane_run (lane_run w ss) ts
run_append w [] ts = refl
run_append w (s ∷ ss) ts = run_append (lane_after w s) ss ts

pub keeps : LaneIsACell → (old new : LaneOf) (ss : List LaneStepOf) → Ran old ss new → KeepsItsCell old ss new
keeps law old new ss ran u asker taker before k =
    let may : MayRun (lane_run (lane_new u asker taker) before) ss = subst (λ w. MayRun w ss) k.is ran.may in
    let leads : new ≡ lane_run (lane_new u asker taker) (before ++ ss) = ran.leads ∙ (ap (λ w. lane_run w ss) k.is ∙ sym (run_append (lane_new u asker taker) before ss)) in
    subst (λ w. IsSomeAnd (cells_along (lane_new u asker taker) (before ++ ss) (Some no_cell_yet)) (IsCellOf w)) (sym leads)
    (law u asker taker (before ++ ss) k.ends (may_append (lane_new u asker taker) before ss k.may may))

-- all steps are taken
pub ran_all : (old new : LaneOf) (xs : List LaneStep) (number : ℕ) → length xs ≤ number → Ran old (lane_steps_of (take number xs)) new → Ran old (lane_steps_of xs) new
ran_all old new xs number past ran = rw (take_all number xs past) at ran

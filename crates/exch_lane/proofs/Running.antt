-- Runs of a lane, step by step.
use Rattle.std.proofs.Common.{◌≡◌, ◌<◌, ◌+◌, ◌∙◌, ℕ, List, [], ◌∷◌, ◌++◌, length, take, get_or, refl, sym, subst, ap}
use Rattle.std.proofs.lemmas.List.{map-append, take_more}
use Rattle.exch_lane.specs.declared.step.LaneStep.{LaneStep}
use Rattle.exch_lane.specs.Lanes.{LaneOf, LaneStepOf, lane_step_of, lane_steps_of}
use Rattle.exch_lane.specs.Steps.{MayRun, MayTake, lane_after, lane_run}

-- the steps may be taken in order, and take one lane to another
pub record Ran (w : LaneOf) (ss : List LaneStepOf) (v : LaneOf) : Type 0 where
  pub may : MayRun w ss
  pub leads : v ≡ lane_run w ss

may_run_more : (w : LaneOf) (ss : List LaneStepOf) (s : LaneStepOf) → MayRun w ss → MayTake (lane_run w ss) s → MayRun w (ss ++ s ∷ [])
may_run_more w [] s may more = (more, tt)
may_run_more w (t ∷ ss) s may more = (may.0, may_run_more (lane_after w t) ss s may.1 more)

run_more : (w : LaneOf) (ss : List LaneStepOf) (s : LaneStepOf) → lane_run w (ss ++ s ∷ []) ≡ lane_after (lane_run w ss) s
run_more w [] s = refl
run_more w (t ∷ ss) s = run_more (lane_after w t) ss s

-- one step more
ran_more : (w v u : LaneOf) (ss : List LaneStepOf) (s : LaneStepOf) → Ran w ss v → MayTake v s → u ≡ lane_after v s → Ran w (ss ++ s ∷ []) u
ran_more w v u ss s ran may leads = record {
  may = may_run_more w ss s ran.may (subst (λ x. MayTake x s) ran.leads may);
  leads = leads ∙ (rw (run_more w ss s) (ap (λ x. lane_after x s) ran.leads));
}

-- a loop over steps takes one more
pub ran_next : (w v u : LaneOf) (xs : List LaneStep) (i : ℕ) (s : LaneStep) → i < length xs → s ≡ get_or xs i s → Ran w (lane_steps_of (take i xs)) v
    → MayTake v (lane_step_of s) → u ≡ lane_after v (lane_step_of s) → Ran w (lane_steps_of (take (i + 1) xs)) u
ran_next w v u xs i s lt is ran may leads =
    rw (take_more xs i s lt) (rw (map-append lane_step_of (take i xs) (get_or xs i s ∷ []))
    (rw (sym is) (ran_more w v u (lane_steps_of (take i xs)) (lane_step_of s) ran may leads)))

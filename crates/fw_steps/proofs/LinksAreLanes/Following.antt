-- A lane that is explained takes steps that may be taken, and its cell takes them too.
use Rattle.mctp_wire.specs.declared.unit.Unit.{«Unit»}
use Rattle.std.proofs.Common.{◌≡◌, ◌∙◌, ℕ, List, [], ◌∷◌, ◌++◌, Option, Some, None, IsSomeAnd, refl, sym, ap, subst}
use Rattle.std.specs.Option.{option_and_then}
use Rattle.exch_lane.specs.Cells.{CellRun, cell_along, cells_along, no_cell_yet}
use Rattle.exch_lane.specs.Lanes.{AreEnds, LaneEntryOf, LaneOf, LaneStepOf, lane_new}
use Rattle.exch_lane.specs.Laws.{IsCellOf, LaneIsACell}
use Rattle.exch_lane.specs.Steps.{MayRun, lane_after, lane_run}
use Rattle.fw_steps.specs.Lanes.{Explained}
use Rattle.fw_steps.specs.LinksAreLanes.{StepsLane}

pub run_behind : (w : LaneOf) (ss ts : List LaneStepOf) → lane_run w (ss ++ ts) ≡ lane_run (lane_run w ss) ts
run_behind w [] ts = refl
run_behind w (s ∷ ss) ts = run_behind (lane_after w s) ss ts

pub may_behind : (w : LaneOf) (ss ts : List LaneStepOf) → MayRun w ss → MayRun (lane_run w ss) ts → MayRun w (ss ++ ts)
may_behind w [] ts h k = k
may_behind w (s ∷ ss) ts h k = (h.0, may_behind (lane_after w s) ss ts h.1 k)

pub cells_behind : (w : LaneOf) (ss ts : List LaneStepOf) (run : Option CellRun) → cells_along w (ss ++ ts) run ≡ cells_along (lane_run w ss) ts (cells_along w ss run)
cells_behind w [] ts run = refl
cells_behind w (s ∷ ss) ts run = cells_behind (lane_after w s) ss ts (option_and_then (cell_along w s) run)

-- a lane and its cell, after steps
pub record Follows (w : LaneOf) (ss : List LaneStepOf) (was : CellRun) : Type 0 where
  pub run : CellRun
  pub along : cells_along w ss (Some was) ≡ Some run
  pub cell : IsCellOf (lane_run w ss) run

follows_to : (w : LaneOf) (ss : List LaneStepOf) (was : CellRun) (o : Option CellRun) → cells_along w ss (Some was) ≡ o → IsSomeAnd o (IsCellOf (lane_run w ss)) → Follows w ss was
follows_to w ss was None along h = absurd h
follows_to w ss was (Some run) along h = record { run = run; along = along; cell = h }

-- a lane that steps reached, and its cell
follows_from : (law : LaneIsACell) (u : «Unit») (asker taker : ℕ) (before : List LaneStepOf) (w : LaneOf) (was : CellRun) (ss : List LaneStepOf) → AreEnds asker taker
    → MayRun (lane_new u asker taker) before → lane_run (lane_new u asker taker) before ≡ w → cells_along (lane_new u asker taker) before (Some no_cell_yet) ≡ Some was
    → MayRun w ss → Follows w ss was
follows_from law u asker taker before w was ss ends may is along more =
    let start = lane_new u asker taker in
    let runs : lane_run start (before ++ ss) ≡ lane_run w ss = run_behind start before ss ∙ ap (λ v. lane_run v ss) is in
    let cells : cells_along start (before ++ ss) (Some no_cell_yet) ≡ cells_along w ss (Some was) =
    cells_behind start before ss (Some no_cell_yet) ∙ ap (λ v. cells_along v ss (cells_along start before (Some no_cell_yet))) is ∙ ap (cells_along w ss) along in
    follows_to w ss was (cells_along w ss (Some was)) refl
    (subst (λ r. IsSomeAnd r (IsCellOf (lane_run w ss))) cells
    (subst (λ v. IsSomeAnd (cells_along start (before ++ ss) (Some no_cell_yet)) (IsCellOf v)) runs
    (law u asker taker (before ++ ss) ends (may_behind start before ss may (subst (λ v. MayRun v ss) (sym is) more)))))

-- A lane that is explained takes its steps.
pub follows : (law : LaneIsACell) (u : «Unit») (asker taker : ℕ) (lane : List LaneEntryOf → LaneOf) (e : Explained u asker taker lane) (ss : List LaneStepOf) → AreEnds asker taker
    → MayRun (lane e.run.entries) ss → Follows (lane e.run.entries) ss e.run
follows law u asker taker lane e ss ends may = follows_from law u asker taker e.steps (lane e.run.entries) e.run ss ends e.may e.is e.along may

-- And it is explained again, if these steps give a lane.
pub record LaneGoes (u : «Unit») (asker taker : ℕ) (before after : List LaneEntryOf → LaneOf) (ss : List LaneStepOf) (was : CellRun) : Type 0 where
  pub explained : Explained u asker taker after
  pub goes : StepsLane before after ss was explained.run

pub goes_on : (law : LaneIsACell) (u : «Unit») (asker taker : ℕ) (lane after : List LaneEntryOf → LaneOf) (e : Explained u asker taker lane) (ss : List LaneStepOf) (es : List LaneEntryOf)
    → AreEnds asker taker → MayRun (lane e.run.entries) ss → lane_run (lane e.run.entries) ss ≡ after es → ((x : List LaneEntryOf) → (after x).entries ≡ x)
    → LaneGoes u asker taker lane after ss e.run
goes_on law u asker taker lane after e ss es ends may leads entries =
    let f = follows law u asker taker lane e ss ends may in
    let before = follows law u asker taker lane e [] ends tt in
    let was : before.run ≡ e.run = let some : Some e.run ≡ Some before.run = before.along in cc in
    let same : f.run.entries ≡ es = f.cell.entries ∙ ap (λ w. w.entries) leads ∙ entries es in
    let to : lane_run (lane e.run.entries) ss ≡ after f.run.entries = leads ∙ ap after (sym same) in
    record {
      explained = record {
        steps = e.steps ++ ss;
        may = may_behind (lane_new u asker taker) e.steps ss e.may (subst (λ v. MayRun v ss) (sym e.is) may);
        run = f.run;
        along = cells_behind (lane_new u asker taker) e.steps ss (Some no_cell_yet)
            ∙ ap (λ v. cells_along v ss (cells_along (lane_new u asker taker) e.steps (Some no_cell_yet))) e.is
            ∙ ap (cells_along (lane e.run.entries) ss) e.along ∙ f.along;
        is = run_behind (lane_new u asker taker) e.steps ss ∙ ap (λ v. lane_run v ss) e.is ∙ to;
      };
      goes = record {
        may = may;
        leads = to;
        along = f.along;
        cell_before = subst (IsCellOf (lane e.run.entries)) was before.cell;
        cell_after = subst (λ v. IsCellOf v f.run) to f.cell;
      };
    }

-- A half after its steps: its core and its cell, and the steps of its pair.
use Rattle.std.proofs.Common.{◌≡◌, ◌∙◌, Bool, true, false, List, [], ◌∷◌, Option, Some, None, refl, sym, ap, subst}
use Rattle.std.specs.Option.{option_map}
use Rattle.pldm_exch.specs.Caller.{Open, request_of_open}
use Rattle.exch_lane.specs.Cells.{Cell, CellRun, cell_close, cells_along, close_in}
use Rattle.exch_lane.specs.Lanes.{LaneOf, LaneStepOf}
use Rattle.exch_lane.specs.Laws.{awaited_request}
use Rattle.exch_lane.specs.Steps.{lane_after_abandon, lane_after}
use Rattle.fw_package.specs.Package.{PackageText}
use Rattle.fwup_wire.specs.Values.{CommandOf}
use Rattle.fw_message.specs.Pairs.{CellContentOf, PairOf, closed_unless}
use Rattle.fw_node.specs.Halves.{CoreOf, still_wished}
use Rattle.fw_steps.specs.Joins.{IsCellFor, IsWishedIn, MatchesCell, cell_kept, cell_unless}
use Rattle.fw_steps.specs.Lanes.{abandon_steps, unless_wished}
use Rattle.fw_steps.proofs.LinksAreMessages.Cells.{gives_up, left_wished, still_for}
use Rattle.fw_steps.proofs.LinksAreMessages.Sides.{PairLeads, Place}

-- A core with its cell: the lane's cell matches the pair's, a command that its asker waits for is
-- pending, and the other half answers it.
pub record Holds {C : Type 0} (core : CoreOf C) (agent : Bool) (x : C) (cell : Cell) (own : Option CellContentOf) : Type 0 where
  pub stands : MatchesCell cell own
  pub wished : IsWishedIn own (core.wish x)
  pub is_for : IsCellFor agent own

-- Steps that add nothing to the history, from a pair to one with this core, and its cell is this.
pub record CoreGoes {C : Type 0} (packages : List PackageText) (core : CoreOf C) (agent : Bool) (place : Place C) (m : PairOf) (other : Option CellContentOf) (x : C) (cell : Cell) : Type 0 where
  pub own : Option CellContentOf
  pub leads : PairLeads packages m [] (place x own other)
  pub holds : Holds core agent x cell own

-- a cell's run that isn't stuck
pub record Went (o : Option CellRun) : Type 0 where
  pub run : CellRun
  pub is : o ≡ Some run

stuck_along : (w : LaneOf) (ss : List LaneStepOf) → cells_along w ss None ≡ None
stuck_along w [] = refl
stuck_along w (s ∷ ss) = stuck_along (lane_after w s) ss

pub went : (w : LaneOf) (ss : List LaneStepOf) (o : Option CellRun) (last : CellRun) → cells_along w ss o ≡ Some last → Went o
went w ss (Some run) last e = record { run = run; is = refl }
went w ss None last e = absurd (let n = stuck_along w ss in cc)

-- a cell is closed exactly if its command is no longer pending
closed_cell : (run after : CellRun) (cell : Cell) → close_in run cell ≡ Some after → after.cell ≡ cell_kept false cell
closed_cell run after (Cell.Asked command body true) e =
    let is : ◌≡◌ {A = CellRun} (record run { cell = Cell.Asked command body false }) after = cc in
    sym (ap (λ r. r.cell) is)
closed_cell run after (Cell.Answered command body reply true) e =
    let is : ◌≡◌ {A = CellRun} (record run { cell = Cell.Answered command body reply false }) after = cc in
    sym (ap (λ r. r.cell) is)
closed_cell run after (Cell.Asked command body false) e = absurd (cc)
closed_cell run after (Cell.Answered command body reply false) e = absurd (cc)
closed_cell run after Cell.Empty e = absurd (cc)

kept_true : (cell : Cell) → cell_kept true cell ≡ cell
kept_true Cell.Empty = refl
kept_true (Cell.Asked command body live) = refl
kept_true (Cell.Answered command body reply live) = refl

kept_empty : (wished : Bool) → cell_kept wished Cell.Empty ≡ Cell.Empty
kept_empty true = refl
kept_empty false = refl

pub unless_empty : (wish : Option CommandOf) (asked : Option Open) → cell_unless wish asked Cell.Empty ≡ Cell.Empty
unless_empty wish None = refl
unless_empty wish (Some o) = kept_empty (still_wished wish o)

-- A lane's asker gave up a request that is no longer the pending command, and these steps follow.
pub record Abandoned (wish : Option CommandOf) (asked : Option Open) (ss : List LaneStepOf) (run last : CellRun) : Type 0 where
  pub lane : LaneOf
  pub mid : CellRun
  pub along : cells_along lane ss (Some mid) ≡ Some last
  pub cell : mid.cell ≡ cell_unless wish asked run.cell

abandoned_by : (wished : Bool) (wish : Option CommandOf) (o : Open) (w : LaneOf) (ss : List LaneStepOf) (run last : CellRun) → still_wished wish o ≡ wished
    → cells_along w (unless_wished wished ss) (Some run) ≡ Some last → Abandoned wish (Some o) ss run last
abandoned_by true wish o w ss run last is e = record { lane = w; mid = run; along = e; cell = rw is (sym (kept_true run.cell)) }
abandoned_by false wish o w ss run last is e =
    let on = went (lane_after_abandon w) ss (cell_close run) last e in
    record {
      lane = lane_after_abandon w;
      mid = on.run;
      along = ap (cells_along (lane_after_abandon w) ss) (sym on.is) ∙ e;
      cell = rw is (closed_cell run on.run run.cell on.is);
    }

pub abandoned : (wish : Option CommandOf) (asked : Option Open) (w : LaneOf) (ss : List LaneStepOf) (run last : CellRun)
    → cells_along w (abandon_steps wish asked ss) (Some run) ≡ Some last → Abandoned wish asked ss run last
abandoned wish None w ss run last e = record { lane = w; mid = run; along = e; cell = refl }
abandoned wish (Some o) w ss run last e = abandoned_by (still_wished wish o) wish o w ss run last refl e

-- A new core, after its half gave up a request that is no longer the pending command.
pub settles : {C : Type 0} (core : CoreOf C) (agent : Bool) (x : C) (asked : Option Open) (cell after : Cell) (own : Option CellContentOf)
    → awaited_request cell ≡ option_map request_of_open asked → MatchesCell cell own → IsCellFor agent own → after ≡ cell_unless (core.wish x) asked cell
    → Holds core agent x after (closed_unless (core.wish x) own)
settles core agent x asked cell after own waits stands k is = record {
  stands = rw is (gives_up (core.wish x) asked cell own waits stands);
  wished = left_wished (core.wish x) own;
  is_for = still_for agent (core.wish x) own k;
}

-- the cell of a half with a new core
pub settled_cell : (wish : Option CommandOf) (asked : Option Open) (w : LaneOf) (run last : CellRun) → cells_along w (abandon_steps wish asked []) (Some run) ≡ Some last
    → last.cell ≡ cell_unless wish asked run.cell
settled_cell wish asked w run last e =
    let a = abandoned wish asked w [] run last e in
    let along = a.along in
    let same : a.mid ≡ last = cc in
    ap (λ r. r.cell) (sym same) ∙ a.cell

-- a core and its cell are unchanged
pub holds_still : {C : Type 0} (core : CoreOf C) (agent : Bool) (x : C) (run last : CellRun) (own : Option CellContentOf) → Some run ≡ Some last → Holds core agent x run.cell own
    → Holds core agent x last.cell own
holds_still core agent x run last own e holds =
    let same : run ≡ last = cc in
    subst (λ r. Holds core agent x r.cell own) same holds

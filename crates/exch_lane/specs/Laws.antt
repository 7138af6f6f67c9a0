-- Lane refinement: a lane is one cell.
use Rattle.std.specs.Prelude.{◌≡◌, ◌==◌, ◌&&◌, ℕ, Bool, true, false, if◌then◌else◌, List, ◌++◌, Option, Some, None, IsSomeAnd, Result, Ok, Err}
use Rattle.std.specs.List.{AllByRecursion}
use Rattle.mctp_wire.specs.Packet as wire
use Rattle.mctp_wire.specs.declared.unit.Unit.{«Unit»}
use Rattle.mctp_wire.specs.declared.fault.WireFault.{WireFault}
use Rattle.mctp_wire.specs.declared.layout.Head.{Head}
use Rattle.std.specs.Option.{option_map}
use Rattle.pldm_exch.specs.Caller.{request_of_open, is_quiet}
use Rattle.exch_lane.specs.Lanes.{AreEnds, LaneOf, IsAlive, Sent, LaneStepOf, lane_new}
use Rattle.exch_lane.specs.Steps.{MayRun, lane_run}
use Rattle.exch_lane.specs.Cells.{Cell, CellRun, cells_along, no_cell_yet}

-- the request that a cell's asker waits for
abbrev pub awaited_request : Cell → Option (ℕ × List ℕ)
awaited_request (Cell.Asked command body true) = Some (command, body)
awaited_request (Cell.Answered command body reply true) = Some (command, body)
awaited_request cell = None

-- the packet goes between these nodes: a request from the asker, or a reply from the taker
abbrev pub is_between : (asker taker : ℕ) → Head → Bool
is_between asker taker h =
    if h.to then (h.source == asker) && (h.dest == taker) else (h.source == taker) && (h.dest == asker)

abbrev pub read_between : (asker taker : ℕ) → Result (Head × List ℕ) WireFault → Bool
read_between asker taker (Ok p) = is_between asker taker p.0
read_between asker taker (Err fault) = false

abbrev pub in_lane : (u : «Unit») (asker taker : ℕ) → List ℕ → Bool
in_lane u asker taker bytes = read_between asker taker (wire.packet_of u bytes)

-- a packet that can still arrive is one of the lane
abbrev pub IsOfLane : LaneOf → Sent → Type 0
IsOfLane w s = IsAlive w.now s → in_lane w.unit w.asker_eid w.taker_eid s.bytes ≡ true

-- The cell is the lane's: their histories are the same, and if the asker isn't deaf and is quiet
-- the cell is empty.
pub record IsCellOf (w : LaneOf) (run : CellRun) : Type 0 where
  pub entries : run.entries ≡ w.entries
  pub quiet : w.asker.deaf ≡ 0 → is_quiet w.asker.caller ≡ true → run.cell ≡ Cell.Empty
  pub packets : AllByRecursion (IsOfLane w) w.packets
  pub waits : awaited_request run.cell ≡ option_map request_of_open w.asker.caller.asked

-- the cell's run along the steps is never stuck, and its cell is the lane's
abbrev pub StaysACell : (u : «Unit») (asker taker : ℕ) → List LaneStepOf → Type 0
StaysACell u asker taker steps =
    IsSomeAnd (cells_along (lane_new u asker taker) steps (Some no_cell_yet)) (IsCellOf (lane_run (lane_new u asker taker) steps))

-- From a new lane, for every list of steps that may be taken in order, whatever is lost, repeated,
-- reordered or late and whoever restarts.
abbrev pub LaneIsACell : Type 0
LaneIsACell =
    (u : «Unit») (asker taker : ℕ) (steps : List LaneStepOf) → AreEnds asker taker → MayRun (lane_new u asker taker) steps
    → StaysACell u asker taker steps

-- the steps from a new lane give this lane
pub record ReachesLane (u : «Unit») (asker taker : ℕ) (steps : List LaneStepOf) (w : LaneOf) : Type 0 where
  pub ends : AreEnds asker taker
  pub may : MayRun (lane_new u asker taker) steps
  pub is : w ≡ lane_run (lane_new u asker taker) steps

-- If steps from a new lane give the old lane, its cell continues with it through the further steps.
abbrev pub KeepsItsCell : LaneOf → List LaneStepOf → LaneOf → Type 0
KeepsItsCell old steps new =
    (u : «Unit») (asker taker : ℕ) (before : List LaneStepOf) → ReachesLane u asker taker before old
    → IsSomeAnd (cells_along (lane_new u asker taker) (before ++ steps) (Some no_cell_yet)) (IsCellOf new)

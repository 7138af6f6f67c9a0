-- The cell of a lane: one request and its reply, without tags, packets or time. Each step of the
-- lane maps to a function on its cell, which gives None if the cell doesn't allow the step.
use Rattle.std.specs.Prelude.{ℕ, ◌==◌, ◌&&◌, Bool, true, false, if◌then◌else◌, List, [], ◌∷◌, ◌++◌, nat_eq, Option, Some, None, is_some}
use Rattle.std.specs.Cmp.Lexicographic.{pointwise}
use Rattle.std.specs.Option.{option_and_then}
use Rattle.pldm_exch.specs.Caller.{is_quiet}
use Rattle.exch_lane.specs.Lanes.{LaneEntryOf, LaneOf, Sent, LaneStepOf, item_numbered}
use Rattle.pldm_exch.specs.Ends.{AskerOf}
use Rattle.pldm_exch.specs.Sides.{AskerRow, AskerTick, TakerRow}
use Rattle.exch_lane.specs.Steps.{asker_row_in, asker_tick_in, lane_after, taker_row_in}
use Rattle.exch_lane.specs.declared.step.End.{End}
use Rattle.exch_lane.specs.declared.step.End.TheVariants as ends

-- The layer above a lane sees nothing, a request, or a request and its reply. The cell is live
-- while its asker waits for the reply.
pub data Cell : Type 0 where
  Empty : Cell
  Asked : (command : ℕ) → (body : List ℕ) → (live : Bool) → Cell
  Answered : (command : ℕ) → (body reply : List ℕ) → (live : Bool) → Cell

-- a cell and its history
pub record CellRun : Type 0 where
  pub cell : Cell
  pub entries : List LaneEntryOf

-- an empty cell with an empty history
abbrev pub no_cell_yet : CellRun
no_cell_yet = record { cell = Cell.Empty; entries = [] }

-- two texts have the same bytes
abbrev pub same_bytes : List ℕ → List ℕ → Bool
same_bytes = pointwise nat_eq

-- the cell is replaced, and nothing is recorded
abbrev pub cell_run_with : CellRun → Cell → Option CellRun
cell_run_with run cell = Some (record run { cell = cell })

-- the cell is replaced, and the entry is recorded
abbrev pub cell_run_with_entry : CellRun → Cell → LaneEntryOf → Option CellRun
cell_run_with_entry run cell entry = Some (record { cell = cell; entries = run.entries ++ entry ∷ [] })

-- A request is asked, if the cell is empty.
abbrev pub ask_in : CellRun → (command : ℕ) → (body : List ℕ) → Cell → Option CellRun
ask_in run command body Cell.Empty = cell_run_with_entry run (Cell.Asked command body true) (LaneEntryOf.Asked command body)
ask_in run command body _ = None

abbrev pub cell_ask : (command : ℕ) → (body : List ℕ) → CellRun → Option CellRun
cell_ask command body run = ask_in run command body run.cell

-- A request is taken and answered, if the cell holds this request and no reply.
abbrev pub take_in : CellRun → (command : ℕ) → (body reply : List ℕ) → Cell → Option CellRun
take_in run command body reply (Cell.Asked asked data_of live) =
    if (command == asked) && same_bytes body data_of then
    cell_run_with_entry run (Cell.Answered asked data_of reply live) (LaneEntryOf.Taken command body reply)
    else None
take_in run command body reply _ = None

abbrev pub cell_take : (command : ℕ) → (body reply : List ℕ) → CellRun → Option CellRun
cell_take command body reply run = take_in run command body reply run.cell

-- A reply is received, if the cell is live and holds this reply.
abbrev pub learn_in : CellRun → (reply : List ℕ) → Cell → Option CellRun
learn_in run reply (Cell.Answered command body answer true) =
    if same_bytes reply answer then cell_run_with_entry run Cell.Empty (LaneEntryOf.Learnt reply) else None
learn_in run reply _ = None

abbrev pub cell_learn : (reply : List ℕ) → CellRun → Option CellRun
cell_learn reply run = learn_in run reply run.cell

-- The cell's asker stops waiting, if the cell is live.
abbrev pub close_in : CellRun → Cell → Option CellRun
close_in run (Cell.Asked command body true) = cell_run_with run (Cell.Asked command body false)
close_in run (Cell.Answered command body reply true) = cell_run_with run (Cell.Answered command body reply false)
close_in run _ = None

abbrev pub cell_close : CellRun → Option CellRun
cell_close run = close_in run run.cell

-- A request that is given up without a reply closes its cell.
abbrev pub cell_give_up : CellRun → Option CellRun
cell_give_up run = cell_close run

-- A closed cell is emptied: nothing of its request is left.
abbrev pub drop_in : CellRun → Cell → Option CellRun
drop_in run (Cell.Asked command body false) = cell_run_with run Cell.Empty
drop_in run (Cell.Answered command body reply false) = cell_run_with run Cell.Empty
drop_in run _ = None

abbrev pub cell_drop : CellRun → Option CellRun
cell_drop run = drop_in run run.cell

-- the node isn't deaf, and its caller is quiet
abbrev pub is_asker_quiet : AskerOf → Bool
is_asker_quiet a = (a.deaf == 0) && is_quiet a.caller

-- nothing is in the cell
abbrev pub is_empty_cell : Cell → Bool
is_empty_cell Cell.Empty = true
is_empty_cell _ = false

-- If the asker isn't deaf and is quiet after a tick, a cell that isn't empty is dropped.
abbrev pub cell_rests : AskerOf → CellRun → Option CellRun
cell_rests a run =
    if is_asker_quiet a then (if is_empty_cell run.cell then Some run else cell_drop run) else Some run

-- the effect on the cell of a packet at the taker
abbrev pub cell_at_taker : (reply : List ℕ) → TakerRow → CellRun → Option CellRun
cell_at_taker reply (TakerRow.Silent requests) run = Some run
cell_at_taker reply (TakerRow.Repeats requests answer) run = Some run
cell_at_taker reply (TakerRow.TakesUp requests m head body) run =
    if head.pldm_type == 5 then cell_take head.command body reply run else None
cell_at_taker reply (TakerRow.Strays requests m) run = None

-- the effect on the cell of a packet at the asker
abbrev pub cell_at_asker : AskerRow → CellRun → Option CellRun
cell_at_asker (AskerRow.Ignores replies) run = Some run
cell_at_asker (AskerRow.Learns replies caller heard) run = cell_learn heard.reply run

-- the effect on the cell of a packet at an end
abbrev pub cell_after_packet : LaneOf → End → (reply : List ℕ) → List ℕ → CellRun → Option CellRun
cell_after_packet w ends.Asker reply bytes run = cell_at_asker (asker_row_in w bytes) run
cell_after_packet w ends.Taker reply bytes run = cell_at_taker reply (taker_row_in w bytes) run

abbrev pub cell_delivers : LaneOf → End → (reply : List ℕ) → Option Sent → CellRun → Option CellRun
cell_delivers w end reply None run = Some run
cell_delivers w end reply (Some p) run = cell_after_packet w end reply p.bytes run

-- the effect on the cell of a tick of the asker: never both a request given up and a cell dropped
abbrev pub cell_ticks : AskerTick → CellRun → Option CellRun
cell_ticks (AskerTick.Waits a) run = cell_rests a run
cell_ticks (AskerTick.Resends a m) run = Some run
cell_ticks (AskerTick.GivesUp a) run = cell_give_up run

-- an asker that restarts waits for nothing
abbrev pub cell_closes_if : Bool → CellRun → Option CellRun
cell_closes_if true run = cell_close run
cell_closes_if false run = Some run

-- The effect of a step of the lane on its cell; None if the cell doesn't allow it.
abbrev pub cell_along : LaneOf → LaneStepOf → CellRun → Option CellRun
cell_along w (LaneStepOf.Begin command body) run = cell_ask command body run
cell_along w LaneStepOf.Abandon run = cell_close run
cell_along w (LaneStepOf.Deliver number end reply) run = cell_delivers w end reply (item_numbered w.packets number) run
cell_along w (LaneStepOf.Tick asker taker) run = cell_ticks (asker_tick_in w asker taker) run
cell_along w (LaneStepOf.Restart ends.Asker) run = cell_closes_if (is_some w.asker.caller.asked) run
cell_along w (LaneStepOf.Restart ends.Taker) run = Some run

-- The cell after a lane's steps.
abbrev pub cells_along : LaneOf → List LaneStepOf → Option CellRun → Option CellRun
cells_along w [] run = run
cells_along w (s ∷ ss) run = cells_along (lane_after w s) ss (option_and_then (cell_along w s) run)

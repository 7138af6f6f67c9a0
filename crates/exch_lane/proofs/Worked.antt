-- Example lanes, by computation.
use Rattle.std.proofs.Common.{◌≡◌, ℕ, true, false, List, [], ◌∷◌, ◌++◌, replicate, length, Some, None, refl}
use Rattle.mctp_wire.specs.declared.unit.Unit.TheVariants.{U64}
use Rattle.mctp_reasm.specs.Pieces.{pieces_from}
use Rattle.exch_lane.specs.Cells.{Cell, cells_along, no_cell_yet}
use Rattle.exch_lane.specs.Lanes.{LaneEntryOf, LaneOf, LaneStepOf, lane_new}
use Rattle.exch_lane.specs.Steps.{lane_run, may_step}
use Rattle.exch_lane.specs.declared.step.End.TheVariants as ends
use Rattle.exch_lane.specs.declared.step.LaneFault.TheVariants as faults

-- `n` ticks that both ends count
ticks : ℕ → List LaneStepOf
ticks n = replicate n (LaneStepOf.Tick true true)

-- a request is answered by a reply that doesn't arrive, and is repeated after six ticks
repeated : List LaneStepOf
repeated = LaneStepOf.Begin 16 (7 ∷ []) ∷ LaneStepOf.Deliver 1 ends.Taker (0 ∷ 1 ∷ []) ∷ ticks 6

-- the repeat arrives, and another reply is at hand; then the second and the first reply arrive
replied : List LaneStepOf
replied = LaneStepOf.Deliver 3 ends.Taker (0 ∷ 2 ∷ []) ∷ LaneStepOf.Deliver 4 ends.Asker [] ∷ LaneStepOf.Deliver 2 ends.Asker [] ∷ []

after_reply : LaneOf
after_reply = lane_run (lane_new U64 8 9) (repeated ++ replied)

-- four packets were sent, and the request was taken once and its first reply received once
four_packets : length after_reply.packets ≡ 4
unfolding after_reply pieces_from repeated replied ticks
four_packets = refl

history : after_reply.entries ≡ LaneEntryOf.Asked 16 (7 ∷ []) ∷ LaneEntryOf.Taken 16 (7 ∷ []) (0 ∷ 1 ∷ []) ∷ LaneEntryOf.Learnt (0 ∷ 1 ∷ []) ∷ []
unfolding after_reply pieces_from repeated replied ticks
history = refl

cell_is_empty : cells_along (lane_new U64 8 9) (repeated ++ replied) (Some no_cell_yet) ≡ Some (record { cell = Cell.Empty; entries = after_reply.entries })
unfolding after_reply pieces_from repeated replied ticks
cell_is_empty = refl

-- a packet may arrive for eight units, and not in the ninth
eight_units : may_step (lane_run (lane_new U64 8 9) (repeated ++ ticks 2)) (LaneStepOf.Deliver 1 ends.Taker []) ≡ None
unfolding pieces_from repeated ticks
eight_units = refl

nine_units : may_step (lane_run (lane_new U64 8 9) (repeated ++ ticks 3)) (LaneStepOf.Deliver 1 ends.Taker []) ≡ Some faults.Dead
unfolding pieces_from repeated ticks
nine_units = refl

-- a request that gets no reply is given up after 18 ticks, and 34 later its cell is dropped and the
-- next may begin
unanswered_for : ℕ → List LaneStepOf
unanswered_for n = LaneStepOf.Begin 16 [] ∷ ticks n

too_early : may_step (lane_run (lane_new U64 8 9) (unanswered_for 51)) (LaneStepOf.Begin 16 []) ≡ Some faults.NotNow
unfolding pieces_from ticks unanswered_for
too_early = refl

in_time : may_step (lane_run (lane_new U64 8 9) (unanswered_for 52)) (LaneStepOf.Begin 16 []) ≡ None
unfolding pieces_from ticks unanswered_for
in_time = refl

closed : cells_along (lane_new U64 8 9) (unanswered_for 51) (Some no_cell_yet) ≡ Some (record { cell = Cell.Asked 16 [] false; entries = LaneEntryOf.Asked 16 [] ∷ [] })
unfolding pieces_from ticks unanswered_for
closed = refl

dropped : cells_along (lane_new U64 8 9) (unanswered_for 52) (Some no_cell_yet) ≡ Some (record { cell = Cell.Empty; entries = LaneEntryOf.Asked 16 [] ∷ [] })
unfolding pieces_from ticks unanswered_for
dropped = refl

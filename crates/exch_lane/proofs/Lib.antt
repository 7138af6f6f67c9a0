-- The proof that a lane is a cell (`lane_is_a_cell`), and of the code of a lane. The files, in
-- reading order.
--
-- THE GHOST STATE OF A LANE: each living packet, each assembly and each kept answer, by the latest
-- exchange of its tag.
-- - `Below`: the laws of the crates below.
-- - `Facts`: facts about tests, numbers and options.
-- - `Elapsed`: the units that pass while an end counts ticks. Only this file uses the clocks.
-- - `Views`: one tag of a lane: its latest exchange, and the data of both ends under it.
-- - `Ghosts`: the ghost state of a lane: the latest exchange of each tag, and the exchange in the
--   cell.
-- - `Lifts`: from lists of eight to one tag, and facts of all packets.
-- - `Packets`: the facts about packets over time.
-- - `Growing`: the facts about the open request and about the cell's exchange hold as an exchange
--   grows.
--
-- ONE TAG in time.
-- - `AskerTicks`: the asker's side of one tag over time.
-- - `TakerTicks`: the taker's side of one tag over time.
-- - `Tags`: one tag in ticks, repeats, a beginning and restarts.
--
-- A REQUEST BEGINS, is given up, or an end restarts.
-- - `Begins`: a request begins.
-- - `Restarts`: the steps that send nothing and deliver nothing: an open request is given up, an
--   end restarts.
--
-- A PACKET IS DELIVERED to an end.
-- - `Pieces`: the pieces of a message: each reads back, and its effect on an assembly that holds a
--   beginning of the message.
-- - `Arrivals`: the arrival of a packet of a message at an end.
-- - `Deliveries`: the effect of one delivery on a tag.
-- - `AskerHears`: a packet of a reply arrives at the asker: it is held or dropped, or it completes
--   the reply, which is that of the cell.
-- - `TakerHears`: a packet of a request arrives at the taker.
-- - `TakerTakes`: a complete request arrives at the taker: it is repeated, or it is new and is that
--   of the cell.
-- - `AskerRows`: the outcome of a packet of a reply at the asker.
-- - `TakerRows`: the outcome of a packet of a request at the taker.
-- - `Delivers`: a packet is delivered to an end.
-- - `Mine`: each packet that can still arrive is one of the lane.
--
-- A TICK.
-- - `TickViews`: the effect of a tick on an end is its effect on each tag.
-- - `Ticked`: the effect of a tick on a lane, for any action of its asker.
-- - `Waits`: a tick in which the asker sends nothing: if it is then quiet, the cell is emptied.
-- - `Quiets`: the facts about the asker after a tick that it misses, in which it is still deaf, or
--   in which no request is open.
-- - `Hearing`: the facts about an asker that isn't deaf after a tick.
-- - `Resends`: a tick in which the open request is sent again.
-- - `Ticks`: a tick of a lane.
--
-- RUNS, and the law.
-- - `Runs`: lane refinement: a new lane is an empty cell, each step keeps the invariant, and so
--   does every list of steps.
-- - `Running`: runs of a lane, step by step.
-- - `Keeping`: the cell of a lane after some steps.
-- - `Worked`: example lanes, by computation.
--
-- THE CODE of a lane.
-- - `LaneRows`: the effect of a step on a lane, from the outcomes at its ends.
-- - `Journals`: lists of packets and entries that grow.
mod Arrivals
mod AskerHears
mod AskerRows
mod AskerTicks
mod Begins
mod Below
mod Deliveries
mod Delivers
mod Elapsed
mod Facts
mod Ghosts
mod Growing
mod Hearing
mod Journals
mod Keeping
mod LaneRows
mod Lifts
mod Mine
mod Packets
mod Pieces
mod Quiets
mod Resends
mod Restarts
mod Running
mod Runs
mod Tags
mod TakerHears
mod TakerRows
mod TakerTakes
mod TakerTicks
mod TickViews
mod Ticked
mod Ticks
mod Views
mod Waits
mod Worked

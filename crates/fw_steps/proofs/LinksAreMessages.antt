-- Each step of a link is steps of its pair over whole messages (`links_are_messages`), and all
-- links of a world take their steps together with the world over messages. The files, in reading
-- order.
--
-- ONE HALF: its core and the cell of the lane in which it asks.
-- - `Cells`: the cells of both worlds after an asker gave up a request.
-- - `Sides`: the steps of each half, as steps of its pair over whole messages.
-- - `AgentSide`: the steps of the agent's half, as steps of its pair over whole messages.
-- - `DeviceSide`: the steps of a device's half, as steps of its pair over whole messages.
-- - `Holding`: a half after its steps: its core and its cell, and the steps of its pair.
-- - `Rows`: an open request after a tick and a packet; and both ends of a half are deaf for as
--   long.
-- - `Asks`: the last part of a half's tick, as steps of its pair: time passes for the core, a
--   request that is no longer the pending command is given up, and the pending command is asked.
-- - `Ticks`: a tick of a half, as steps of its pair: a cell that nobody waits for is dropped, or
--   the open request is given up; time passes; and the pending command is asked.
-- - `Learns`: a reply that a half learns, as a step of its pair.
-- - `Takes`: a request that a half takes, as a step of its pair.
--
-- ONE LINK: both halves.
-- - `BothHalves`: a link and its pair, half by half; and a tick of the link.
-- - `Delivers`: a packet that is delivered to a side of a link, as steps of its pair.
-- - `Calls`: the operator's calls, verdicts and restarts on a link, as steps of its pair.
-- - `Whole`: each step of a link is steps of its pair over whole messages.
-- - `Stands`: a link that is explained and the pair that it matches, along the link's steps.
--
-- THE WORLD: all links with all pairs.
-- - `Pairs`: the run of one pair, in the world of all.
-- - `Each`: each link of a world with its pair in the world of messages: one of them takes a step,
--   or all do.
-- - `Moves`: the links of a world and the world of messages that they match: it takes a step with
--   each of theirs.
-- - `Restarts`: the agent restarts: each link does, and its pair with it, which is one step of the
--   world of messages.
-- - `Worlds`: the openings of links and messages, and the laws of all worlds that they reach.
pub mod AgentSide
pub mod Asks
pub mod BothHalves
pub mod Calls
pub mod Cells
pub mod Delivers
pub mod DeviceSide
pub mod Each
pub mod Holding
pub mod Learns
pub mod Moves
pub mod Pairs
pub mod Restarts
pub mod Rows
pub mod Sides
pub mod Stands
pub mod Takes
pub mod Ticks
pub mod Whole
pub mod Worlds

-- A run of the packet world is a run over whole messages, and so is safe (`packets_are_safe`). The
-- files, in reading order.
--
-- FACTS about a step of the world: the deaf ticks of the nodes, the steps of the links, and the
-- codecs.
-- - `KnownDeaf`: the ticks for which the agent is deaf after a step, and each of its halves with
--   it.
-- - `KnownSteps`: facts about the links' steps in a step of the world.
--
-- THE HISTORY: the world notes what its links note.
-- - `HistoryNoted`: the entries of a link's step, and their place in the history of a world.
-- - `HistoryAgent`: the records that the agent makes of a packet, and the link's entries for them.
-- - `HistoryDevice`: the images that a device activates at a packet and applies at a verdict, and
--   its link's entries for them.
-- - `HistoryDelivered`: the entries of a packet that is delivered to a node of the world.
-- - `HistoryGrows`: the history of a world grows by the entries of the link that takes the step.
-- - `Grown`: the history of a world only grows.
--
-- THE HEADLINE: a world matches one over whole messages from its opening on, so that it is safe.
-- - `SafeStands`: a world that matches one over whole messages, and still does after each step.
-- - `SafeOpening`: an opening world matches an opening world over whole messages.
-- - `SafeTicks`: a world that matches one over whole messages still does after a step of all its
--   links.
-- - `SafeSteps`: a world that matches one over whole messages still does after any step.
-- - `Safe`: every world that steps reach from an opening world is safe.
--
-- OTHER LAWS of runs.
-- - `Tied`: any two moments of a run of the packet world are tied.
-- - `AsMessages`: a run of packets is a run of whole messages.
-- - `Clocks`: each node keeps time along a run: it misses a tick only if it has counted eight since
--   the last one it missed.
pub mod AsMessages
pub mod Clocks
pub mod Grown
pub mod HistoryAgent
pub mod HistoryDelivered
pub mod HistoryDevice
pub mod HistoryGrows
pub mod HistoryNoted
pub mod KnownDeaf
pub mod KnownSteps
pub mod Safe
pub mod SafeOpening
pub mod SafeStands
pub mod SafeSteps
pub mod SafeTicks
pub mod Tied

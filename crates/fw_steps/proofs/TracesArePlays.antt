-- A trace is a play (`traces_are_plays`): its acts are sorted by their units, ticks first. The
-- files, in reading order.
--
-- - `Keys`: the key of an act: the ticks to a unit come first, then all other acts in that unit.
-- - `Swaps`: two neighbouring acts whose keys are in the wrong order may change places.
-- - `Sorting`: so acts can be sorted by their keys, with the same processes after them.
-- - `Steps`: an act as a step of a play: only its own process changes.
-- - `Next`: in a sorted trace, a process that is in an earlier unit than the others ticks next.
-- - `Beside`: a play beside a sorted trace: each process of the play is as in the trace, or one
--   tick further.
-- - `Others`: an act that is no tick is a step of the play beside it.
-- - `Plays`: a sorted trace is a play, and so is every trace.
pub mod Beside
pub mod Keys
pub mod Next
pub mod Others
pub mod Plays
pub mod Sorting
pub mod Steps
pub mod Swaps

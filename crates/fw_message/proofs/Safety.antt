-- Every run of messages keeps the history of a device safe and tied (`messages_are_safe`), and so
-- that of each device of a world (`worlds_are_safe`). The files, in reading order.
--
-- THE INVARIANT between a device, its session, both cells and the history.
-- - `Pieces`: a list that is received in pieces.
-- - `Counts`: the counts after one more entry.
-- - `Applied`: the applied images of a device, row by row.
-- - `Readings`: the reading of a history after one more entry.
-- - `Turns`: the images applied under a key are one image, which runs after a switch.
-- - `Histories`: a history that grows stays safe, and tied with the device and the records.
-- - `Agreement`: the agreement of a device, its session and the two cells.
-- - `Loose`: a device that goes to IDLE, and a session that begins nothing, keep the invariant.
--
-- DOWN: the agent asks, the device takes, the session learns.
-- - `Takes`: answers of the device without a change, or with a step to IDLE, keep the invariant.
-- - `Begins`: RequestUpdate, PassComponentTable, UpdateComponent and ActivateFirmware that a device
--   accepts keep the invariant.
-- - `Down`: the agent's commands, and the device's answers, keep the invariant.
-- - `Learns`: the answers that the session learns keep the invariant.
--
-- UP: the device asks, the session takes, the device learns.
-- - `Planned`: a recorded component is of the plan of its package.
-- - `Serves`: the session's answers keep the invariant.
-- - `Up`: the device's commands, and the session's answers, keep the invariant.
-- - `Moves`: a device that progresses with its own work keeps the invariant.
-- - `Cells`: cells that are filled, emptied and closed keep the invariant.
-- - `Reports`: the answers that the device learns keep the invariant.
--
-- OTHER STEPS, and then runs.
-- - `Verdicts`: verdicts keep the invariant.
-- - `Calls`: the operator's calls, time and restarts keep the invariant.
-- - `Closing`: closing cells keeps the invariant.
-- - `Runs`: steps and runs keep the invariant.
-- - `Worlds`: the invariant of a pair is kept for each device of a world.
pub mod Agreement
pub mod Applied
pub mod Begins
pub mod Calls
pub mod Cells
pub mod Closing
pub mod Counts
pub mod Down
pub mod Histories
pub mod Learns
pub mod Loose
pub mod Moves
pub mod Pieces
pub mod Planned
pub mod Readings
pub mod Reports
pub mod Runs
pub mod Serves
pub mod Takes
pub mod Turns
pub mod Up
pub mod Verdicts
pub mod Worlds

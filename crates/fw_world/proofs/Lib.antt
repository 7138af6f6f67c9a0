-- The proofs of replays.
--
-- - `Taken`: the steps that a replay took are a run.
-- - `Timely`: a replay keeps time over the steps that it took.
mod Taken
mod Timely

-- A play is a run of a world that ends in the nodes of its processes (`plays_are_runs`). The files,
-- in reading order.
--
-- - `Options`: the value of an option.
-- - `Sendings`: a packet among those that were sent has a number there.
-- - `Sites`: the identifiers of a world's devices.
-- - `Agreeing`: a world agrees with processes: it has their nodes, and among its packets those that
--   they sent; and it agrees with them again after each step.
-- - `Allowed`: the steps that may follow in a play, for a world that agrees with it.
-- - `Entries`: the entries that a step adds to the history of a device: those that the agent and
--   the device note in their own calls.
-- - `Steps`: each step of a play is a step of a world that agrees with it.
-- - `Runs`: a play is a run: its steps, in order, from the opening world.
pub mod Agreeing
pub mod Allowed
pub mod Entries
pub mod Options
pub mod Runs
pub mod Sendings
pub mod Sites
pub mod Steps

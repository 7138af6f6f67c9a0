-- The state between the agent and a device depends on no other device (`devices_are_isolated`). The
-- files, in reading order.
--
-- - `Nodes`: a device's node after a step of the world, without its half.
-- - `Seen`: the state between the agent and a device after a step of the world: it depends on the
--   state before, on the time, on the packages, and on the step of their link.
-- - `Counts`: a step in which no call of a device's bank fails changes the state between it and the
--   agent as if every call worked; a call that fails is counted; and if no bank is called the count
--   stays.
-- - `Runs`: the state between the agent and a device after a run: it depends on the state before
--   and on the steps that concern the device, so two runs that agree in both give the same state.
pub mod Counts
pub mod Nodes
pub mod Runs
pub mod Seen

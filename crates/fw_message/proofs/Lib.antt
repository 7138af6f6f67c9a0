-- The proofs of the world over whole messages, in reading order: first the laws, then runs, then
-- the history and the images.
--
-- THE LAWS of runs.
-- - `Safety`: every run of messages keeps the history of a device safe and tied; a folder with its
--   own list.
-- - `Running`: runs of a world by its named steps.
-- - `Moments`: any two moments of a run: the history only grows, the devices stay, and the running
--   images and the records change by the entries between.
-- - `Showing`: what two worlds show of a device that either may lack.
-- - `Cases`: the histories by hand, judged.
-- - `WorldCases`: the worlds by hand, judged.
--
-- STEPS of one device, and of the world.
-- - `Allowing`: a step that is allowed is allowed with its closing too, and adds the same entries.
-- - `Places`: a step of the device at a place.
-- - `Stepping`: a step of a world, from the device that takes it.
-- - `Finding`: the device at a place that was found.
-- - `Apart`: no device has the agent's identifier, after any steps.
-- - `BankCalls`: if a step calls no bank, nothing depends on whether a call works.
-- - `Counted`: named steps of a world are a run of message steps.
-- - `Openings`: the opening of a world: without devices, and with one more device.
--
-- THE ENTRIES that a step adds to the history.
-- - `Activating`: a device activates images if its answer says so: those that were applied.
-- - `Completing`: the entry of a session's Take: a record, for a good ApplyComplete in Apply.
-- - `Closings`: a step and its entries, before and after closing the commands that are no longer
--   pending.
-- - `Working`: if a bank isn't called, or fails no more than before, nothing depends on whether its
--   call works.
-- - `Applied`: the applied images, component by component.
-- - `Growing`: the entries of a device's Take and of a verdict if its bank works; there are none if
--   it fails.
--
-- IMAGES AND RECORDS of the code.
-- - `Sealing`: the image sealed under a key is the one applied under it.
-- - `Noting`: the copy of the image that ApplyOk applies is the one noted.
-- - `Records`: a session's new record is the one after its old records.
-- - `Rising`: images by rising key.
mod Activating
mod Allowing
pub mod Apart
pub mod Applied
mod BankCalls
pub mod Cases
mod Closings
mod Completing
pub mod Counted
mod Finding
mod Growing
pub mod Moments
mod Noting
mod Openings
mod Places
mod Records
mod Rising
mod Running
pub mod Safety
pub mod Sealing
pub mod Showing
mod Stepping
mod WorldCases
pub mod Working

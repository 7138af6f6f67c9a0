-- Every answer in a run can be decoded, and every pending command encoded: the values fit as a
-- world is made, and still do after each step.
--
-- - `SessionRoundTrips`: a session's answers and pending commands.
-- - `DeviceRoundTrips`: a device's answers and pending commands.
-- - `DeviceKeepsWidths`: a device whose values fit the fields of messages still does after each
--   step.
-- - `PairKeepsWidths`, `WorldKeepsWidths`: the same for a pair of a device and its session, and for
--   a world of messages.
-- - `LinkRoundTrips`: on a link between two such halves all messages round-trip.
-- - `WorldRoundTrips`: so on each link of a world.
-- - `RunsRoundTrip`: and so along each run (`messages_round_trip`).
pub mod DeviceKeepsWidths
pub mod DeviceRoundTrips
pub mod LinkRoundTrips
pub mod PairKeepsWidths
pub mod RunsRoundTrip
pub mod SessionRoundTrips
pub mod WorldKeepsWidths
pub mod WorldRoundTrips

-- The proofs of the packet world, in reading order: a folder for each main law, from the lowest,
-- then the lemmas of single functions.
--
-- THE MAIN LAWS, from the lowest: links are lanes, links are messages, packets are safe, devices
-- are isolated.
-- - `LinksAreLanes`: a step of a link is steps of its two lanes, and each step of the world is a
--   step of each link.
-- - `LinksAreMessages`: each step of a link is steps of its pair over whole messages, and all links
--   take their steps together.
-- - `Running`: runs of the world, one after another.
-- - `ReadingBack`: in every run the answers can be decoded and the pending commands encoded.
-- - `PacketsAreSafe`: a run of packets is a run of whole messages, and so is safe.
-- - `DevicesAreIsolated`: the state between the agent and a device depends on no other device.
-- - `Reaching`: worlds that steps reach: the steps from there, and the laws of these worlds.
-- - `Cases`: the differences that worlds that agree in a device can't have.
-- - `StepCases`, `WorldCases`, `CallCases`: steps, worlds, and the calls of a bank, judged by hand.
--
-- SEPARATE PROCESSES, each with its own node.
-- - `NodesAlone`: each node of a run is as its own calls leave it.
-- - `PacketsAreTheirs`: the packets of a device are those that the agent and the device sent in
--   their own calls.
-- - `ProcessesAreSafe`: the headline holds for nodes whose calls are those of one run.
-- - `PlaysAreRuns`: a play, in which all processes tick at once, is a run of a world.
-- - `TracesArePlays`: a trace, in which each process ticks by itself, is a play.
-- - `TracesAreCut`: the acts up to a unit that all processes have reached are a trace by
--   themselves.
-- - `TracesAreSafe`: the headline holds for separate processes.
-- - `Absences`: an absence is restarts and ticks.
--
-- STEPS of the code.
-- - `Opening`: the nodes of an opening world.
-- - `Fit`: the values of a world fit the fields of messages.
-- - `Leading`: each step of the world's code follows its definition.
-- - `Places`: the site at a place, and room there.
-- - `Rooms`: room for more in a list.
-- - `Components`: no call of a device's node changes the components that the device and its bank
--   have.
-- - `Spans`: the bytes of packets that are in one list, in order.
-- - `Aging`: packets that can't be received any more.
-- - `Ticking`: a tick leaves a ready device unchanged.
--
-- THE HISTORY that the code notes.
-- - `Activating`: a ready device after a packet: it activated exactly if it is in ACTIVATE then,
--   and else, if it is still ready, its bank is unchanged.
-- - `Noting`: the entries after a device's node handled a packet.
-- - `Recording`: the entries of the agent's records after a packet.
-- - `Judging`: the entries after a verdict.
mod Absences
pub mod Activating
mod Aging
mod CallCases
mod Cases
pub mod Components
mod DevicesAreIsolated
mod Fit
pub mod Judging
mod Leading
pub mod LinksAreLanes
mod LinksAreMessages
pub mod NodesAlone
pub mod Noting
mod Opening
pub mod PacketsAreSafe
pub mod PacketsAreTheirs
mod Places
mod PlaysAreRuns
mod ProcessesAreSafe
pub mod Reaching
pub mod Recording
mod Rooms
pub mod Running
mod ReadingBack
mod Spans
mod StepCases
pub mod Ticking
mod TracesAreCut
mod TracesArePlays
mod TracesAreSafe
mod WorldCases

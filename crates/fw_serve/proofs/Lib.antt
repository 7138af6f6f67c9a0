-- The proofs of nodes by themselves.
--
-- - `Lists`: items of lists.
-- - `Notes`: the entries after a call of a device's node alone.
-- - `Calls`: the calls of a device's node by itself.
-- - `Parts`: what the nodes of a run print for their parts of it.
-- - `NothingElse`: where no call of a bank fails, a device prints nothing else.
-- - `Processes`: a device as a process of its own.
-- - `TracedDeeds`: a process receives only packets that are timely.
-- - `TracedDevices`: the deeds of a served device are acts of a trace.
-- - `TracedAgent`: the deeds of the served agent are acts of a trace.
-- - `TracedProcesses`: the headline holds for served processes.
-- - `NodeCounts`: the counts of an agent with a node.
-- - `Keeping`: the agent as a process with a keeper.
-- - `Anew`: an agent that is started anew from what was kept.
-- - `HalvesStay`, `AgentStays`, `DeviceStays`: what no call changes of a half, the agent and a
--   device.
-- - `Recounts`: nothing depends on a bank's count of failures.
-- - `Lives`: the lives of processes that are killed and started anew are acts of a trace.
-- - `Ends`: the line of packets, from the packets with a space after each.
mod AgentStays
mod Anew
mod Calls
mod DeviceStays
mod Ends
mod HalvesStay
mod Keeping
mod Lists
mod Lives
mod NothingElse
mod NodeCounts
mod Notes
mod Parts
mod Prints
mod Processes
mod Recounts
mod TracedAgent
mod TracedDeeds
mod TracedDevices
mod TracedProcesses
mod Turns

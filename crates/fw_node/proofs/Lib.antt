-- The proofs of the nodes, in reading order.
--
-- A PACKET at a half, and the answers of its node.
-- - `Rows`: the content of a packet, from the rows of both ends.
-- - `Readings`: a node's outcome depends only on the packet that the bytes decode to.
-- - `NodeHears`: the outcome of a packet for a half that hears, from its content.
-- - `HalfHears`: the agent after a packet, from one of its halves after it.
-- - `NodeServes`: a node's answer to a firmware update request.
-- - `Controls`: the answer to a control message.
-- - `Working`: if a bank isn't called, nothing depends on whether its call works.
-- - `BankCalls`: if it is called, the outcome depends on that.
--
-- A TICK of a half, and of the agent with all its halves.
-- - `Again`: the message that a tick sends again, from the message of the open request.
-- - `NodeTicks`: a tick of a half, in the order of the code.
-- - `OneATick`: a half sends at most one message a tick: after a repeat the request is open, or it
--   was given up and its tag rests.
-- - `AgentTicks`: a tick of the agent, in the order of the code.
-- - `Addressed`: the packets that a half sends go to its peer.
-- - `Pushed`: the packets of a message, appended one by one.
-- - `Loops`: a loop that changes each element and sends the packets of each.
--
-- THE OPERATOR'S CALLS.
-- - `Places`: places among the agent's halves.
-- - `Calls`: the operator's calls of the agent, from those of one of its halves.
--
-- A RESTART of the agent.
-- - `Resumed`: an agent that is resumed from what an agent keeps restarts as it does.
mod Addressed
mod Again
mod AgentTicks
mod BankCalls
mod Calls
mod Controls
mod HalfHears
pub mod Loops
mod NodeHears
mod NodeServes
pub mod NodeTicks
mod OneATick
mod Places
mod Pushed
mod Readings
mod Resumed
mod Rows
mod Working

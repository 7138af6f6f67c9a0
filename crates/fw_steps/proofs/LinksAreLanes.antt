-- A step of a link is steps of its two lanes (`links_are_lanes`), and each step of the world is a
-- step of each link. The files, in reading order.
--
-- ONE LINK: the steps of a half for a packet and a tick, in the lane in which it asks and in the
-- lane in which it answers.
-- - `Following`: a lane that is explained takes steps that may be taken, and its cell takes them
--   too.
-- - `Routes`: a packet of one of a link's lanes isn't for the ends of the other.
-- - `Sorted`: the packets that are sent are of their own lane only; and a packet's number in its
--   lane.
-- - `Units`: a session keeps its transmission unit in all steps of a half.
-- - `Ways`: both ways between two halves, whichever of them is the agent's.
-- - `Hears`: a packet at a half, in the lane in which it asks and in the lane in which it answers.
-- - `Comings`: a packet is delivered to a half, on both ways between it and the other.
-- - `Ticks`: a tick of a half, in the lane in which it asks.
-- - `Moves`: the calls and ticks of a half, on both ways between it and the other.
-- - `InLanes`: a step of a link is steps of its two lanes.
-- - `Openings`: a link without packets is explained.
--
-- THE RECEIVERS of packets, and packets that are delivered to another half.
-- - `Routed`: the messages that the nodes of a lane keep for sending go to the other node.
-- - `Sendings`: the packets that a half sends go to its peer.
-- - `Misses`: a packet that isn't for a half, or is delivered to a deaf one, changes nothing.
--
-- THE WORLD: the step of one device's link in a step of the world.
-- - `Firsts`: the first element of a list with this key.
-- - `Posting`: the agent's packets are appended to those of the devices that they go to.
-- - `Phases`: a tick of the agent, all of whose halves do each part before the next begins, is a
--   tick of each half.
-- - `AgentTicks`: the agent's tick for one of its devices.
-- - `Projection`: the step of one device's link in a step of the world.
-- - `Beats`: if a tick may be taken, each node of a link may count it, or miss it.
-- - `Arrivals`: a packet that is delivered to a node of the world, on the link of each device.
-- - `AgentArrivals`: a packet that is delivered to the agent, on the link of each device.
-- - `Projected`: a step of the world is a step of the link of each device, or no step of it.
-- - `Delivered`: a packet that is delivered in the world is delivered on its device's link, and on
--   no other.
-- - `WorldSteps`: each step of the world is a step of the link of each device, or no step of it.
--
-- ALL LINKS of a world, side by side.
-- - `Listed`: the links of a world in the order of its devices.
-- - `Keys`: the devices of a world, and the agent's halves for them, stay the same.
-- - `Places`: from the link of each device to the list of all links.
-- - `Linked`: a world of which each link is explained is linked.
pub mod AgentArrivals
pub mod AgentTicks
pub mod Arrivals
pub mod Beats
pub mod Comings
pub mod Delivered
pub mod Firsts
pub mod Following
pub mod Hears
pub mod InLanes
pub mod Keys
pub mod Linked
pub mod Listed
pub mod Misses
pub mod Moves
pub mod Openings
pub mod Phases
pub mod Places
pub mod Posting
pub mod Projected
pub mod Projection
pub mod Routed
pub mod Routes
pub mod Sendings
pub mod Sorted
pub mod Ticks
pub mod Units
pub mod Ways
pub mod WorldSteps

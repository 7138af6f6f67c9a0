mod AgentStores
pub mod Ended
mod Imaged
mod Lone
pub mod Packed
mod Processes

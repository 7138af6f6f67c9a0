-- The definitions.
pub mod PacketLines
pub mod Records
pub mod Traces
pub mod Watches

mod Packets
pub mod Spelled

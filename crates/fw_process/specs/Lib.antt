pub mod Frames
pub mod Processes

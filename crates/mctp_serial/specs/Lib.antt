pub mod Check
pub mod Frames
pub mod Reader
pub mod Laws

pub mod Cells
pub mod Clocks
pub mod Journals
pub mod Lanes
pub mod Laws
pub mod Nodes
pub mod Steps

pub mod Keepers
pub mod Kept
pub mod Packages

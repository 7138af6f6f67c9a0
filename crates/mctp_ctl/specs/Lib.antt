pub mod Codes
pub mod Control

pub mod Caller
pub mod Ends
pub mod Fields
pub mod Kept
pub mod Laws
pub mod Requests
pub mod Rests
pub mod Sides

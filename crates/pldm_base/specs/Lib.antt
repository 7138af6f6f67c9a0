pub mod Base
pub mod Codes
pub mod Header
pub mod Limits

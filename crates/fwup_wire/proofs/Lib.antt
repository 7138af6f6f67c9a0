pub mod DescriptorLaws
mod Found
pub mod Items
pub mod Limits
pub mod ParameterLaws
pub mod Parts
pub mod SameCommands
mod Written
pub mod WrittenAnswers

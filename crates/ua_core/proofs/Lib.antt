mod AllApplied
pub mod Answering
pub mod Fitting
pub mod Padding
pub mod Known
pub mod Lawful
pub mod InPlan
mod Refusals
pub mod Windows

-- The definitions.
pub mod Fronts
pub mod Serial

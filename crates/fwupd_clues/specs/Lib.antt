pub mod ClueLines
pub mod ClueTexts
pub mod Clues
pub mod Identifiers
pub mod Reasons
pub mod Warnings

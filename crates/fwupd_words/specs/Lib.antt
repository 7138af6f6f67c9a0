pub mod Clashes
pub mod CommandLine
pub mod Jobs
pub mod Processes
pub mod Reading
pub mod Words
pub mod Packages
pub mod Images

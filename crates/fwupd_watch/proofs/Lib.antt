pub mod AnyFiles
pub mod Happened
pub mod Started
mod Answering
mod Begun
mod Ends
mod Lines
mod Noted
mod Opening
mod Overs
mod PathCalls
mod Paths
mod Put
mod Refused
mod Served
mod Shown
mod Traced
mod Turns
mod WholeLines

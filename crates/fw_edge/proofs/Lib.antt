mod Alive
mod Arriving
mod Chances
mod Dues
mod Failing
mod Frames
mod Full
mod Gaining
pub mod Going
mod Latest
mod Naming
mod Overs
mod Parts
mod Pieces
pub mod Rising
mod Roughening
pub mod Sending
mod Stopping
pub mod Taking
pub mod Turning

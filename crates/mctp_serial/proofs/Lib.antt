-- In reading order: the published check value (CheckValue), loops over bytes (Steps), a written
-- frame is a frame and the only one (Framing), a frame is read back (Reading), a stream in two
-- parts (Streams), each packet that is returned was framed (Giving), a reader recovers after noise
-- (Recovering).
mod CheckValue
mod Framing
mod Giving
mod Reading
mod Recovering
pub mod Steps
mod Streams

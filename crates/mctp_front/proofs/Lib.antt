-- The laws of packets that pass.
mod Passing

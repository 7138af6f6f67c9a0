mod Leading
mod Making
mod Rooms
mod Stocking

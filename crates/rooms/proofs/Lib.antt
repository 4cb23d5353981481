pub mod Rooms
pub mod Only

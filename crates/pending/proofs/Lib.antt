pub mod Places
pub mod Turns
pub mod Moves
pub mod Discipline
pub mod Shifts

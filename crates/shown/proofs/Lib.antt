pub mod Turns
pub mod Copying
pub mod Parts

pub mod Placing
pub mod Held

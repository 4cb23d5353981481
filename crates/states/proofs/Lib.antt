pub mod Sixteen
pub mod States

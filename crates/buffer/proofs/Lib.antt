pub mod Filled
pub mod Cases
pub mod Steps

pub mod States
pub mod Step

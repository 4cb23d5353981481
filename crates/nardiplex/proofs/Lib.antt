pub mod Parts
pub mod Only

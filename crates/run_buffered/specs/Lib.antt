pub mod Ran
pub mod Cores
pub mod Flat

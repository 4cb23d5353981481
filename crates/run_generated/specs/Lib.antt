pub mod Threads
pub mod Ran

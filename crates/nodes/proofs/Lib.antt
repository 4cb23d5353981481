pub mod Search
pub mod Records
pub mod Writing
pub mod Reading

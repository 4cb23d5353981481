pub mod Places
pub mod Pending

pub mod InPlace
pub mod Starts
pub mod Turns
pub mod Agree
pub mod Refused

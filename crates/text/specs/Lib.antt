pub mod Written
pub mod Reading
pub mod Steps
pub mod Read
pub mod TextForm

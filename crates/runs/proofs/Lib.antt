pub mod Laws
pub mod Items
pub mod Only
pub mod Beside
pub mod Simulated
pub mod Worlds
pub mod Schedules
pub mod Cases

pub mod Laws
pub mod Ops
pub mod Scan
pub mod Halving
pub mod Sought
pub mod Order
pub mod Chunks

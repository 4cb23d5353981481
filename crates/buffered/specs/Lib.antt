pub mod Machine
pub mod RunBuffered

pub mod Machine
pub mod RunGenerated

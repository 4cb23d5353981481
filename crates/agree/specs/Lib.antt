pub mod Demands
pub mod Known

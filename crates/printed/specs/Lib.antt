pub mod Text
pub mod Graph
pub mod IsGraph
pub mod SameGraph
pub mod Printed
pub mod Steps
pub mod Room

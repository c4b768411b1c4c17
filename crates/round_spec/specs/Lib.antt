pub mod Whole
pub mod Format
pub mod Round
pub mod Nodes
pub mod Examples

pub mod Tree
pub mod Least
pub mod Shape
pub mod Greatest
pub mod Examples

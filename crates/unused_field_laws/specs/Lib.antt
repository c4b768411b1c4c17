pub mod Without
pub mod Theorems
pub mod Files

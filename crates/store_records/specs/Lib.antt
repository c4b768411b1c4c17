pub mod Records
pub mod Buffers

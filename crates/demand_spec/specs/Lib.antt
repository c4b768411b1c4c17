pub mod History
pub mod Demands

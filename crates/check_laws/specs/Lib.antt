pub mod Causes
pub mod Decided

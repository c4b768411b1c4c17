pub mod Meanings
pub mod Examples

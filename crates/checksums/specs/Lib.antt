pub mod Xorshift
pub mod Examples

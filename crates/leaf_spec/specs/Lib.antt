pub mod Entries
pub mod Convert
pub mod Leaf

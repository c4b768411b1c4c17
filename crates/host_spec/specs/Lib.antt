pub mod Lengths
pub mod Result
pub mod Host

pub mod Fetch
pub mod Call
pub mod Peak
pub mod Simulates

pub mod Choice
pub mod Perm
pub mod Distinct
pub mod Ascending
pub mod Sorting
pub mod Largest

pub mod Values
pub mod ResultLaws

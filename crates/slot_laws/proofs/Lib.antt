pub mod PathNumberLaws
pub mod Examples

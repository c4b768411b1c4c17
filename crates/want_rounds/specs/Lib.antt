pub mod Splits
pub mod Wanting
pub mod WantingLaws
pub mod WalkLaws

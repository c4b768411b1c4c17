pub mod Walk
pub mod WalkLaws
pub mod LowestLaws
pub mod PathTo
pub mod PathLaws

pub mod InputLaws
pub mod LinesLaws
pub mod WalkLaws

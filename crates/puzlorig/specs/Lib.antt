pub mod LengthLaws
pub mod OpeningLaws
pub mod CallLaws
pub mod ReadOutLaws

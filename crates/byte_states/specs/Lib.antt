pub mod Refusal
pub mod PlacesFit
pub mod HeadLaws
pub mod PlacesFitLaws
pub mod RowLaws

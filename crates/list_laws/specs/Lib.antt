pub mod ChoiceLaws
pub mod PermLaws
pub mod Shuffle
pub mod DistinctLaws
pub mod SortingLaws
pub mod Merging
pub mod AscendingLaws
pub mod LargestLaws

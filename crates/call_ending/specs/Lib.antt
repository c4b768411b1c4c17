pub mod Ending
pub mod EndingLaws
pub mod ShortLaws

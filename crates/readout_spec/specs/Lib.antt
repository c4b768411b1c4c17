pub mod Seen
pub mod Taken
pub mod File
pub mod ReadOut
pub mod ReadBack
pub mod Complete

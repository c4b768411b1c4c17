pub mod AddLaws
pub mod TakeLaws

pub mod FetchLaws
pub mod Short
pub mod ShortLaws

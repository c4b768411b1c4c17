pub mod Single
pub mod SingleLaws

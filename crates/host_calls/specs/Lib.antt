pub mod Left
pub mod LeftLaws

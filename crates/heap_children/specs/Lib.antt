pub mod Children
pub mod ChildLaws

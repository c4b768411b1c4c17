pub mod SameDraws
pub mod CutLaws

pub mod CopyLaws
pub mod PieceLaws

pub mod Resume
pub mod ResumeLaws
pub mod LinkLaws

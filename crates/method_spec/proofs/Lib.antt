pub mod Examples
pub mod ChangeExamples

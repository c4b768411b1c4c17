pub mod Examples
pub mod PeakExamples

pub mod FullPutExamples
pub mod UnusedFieldExamples
pub mod HostExamples

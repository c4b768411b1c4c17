pub mod Spans
pub mod SpanLaws

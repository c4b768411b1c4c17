pub mod Sinking
pub mod SinkLaws

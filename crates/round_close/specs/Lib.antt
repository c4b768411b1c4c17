pub mod Fault
pub mod MaxLaws

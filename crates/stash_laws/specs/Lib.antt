pub mod Waiting
pub mod WaitingLaws
pub mod Examples

pub mod Run
pub mod RunLaws
pub mod CallLaws

pub mod Operation
pub mod OperationLaws
pub mod WantLaws

pub mod Refusal
pub mod RefusalLaws

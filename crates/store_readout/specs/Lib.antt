pub mod Refusal
pub mod RefusalLaws
pub mod PlacesLaws

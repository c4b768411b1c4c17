pub mod Reply
pub mod Store

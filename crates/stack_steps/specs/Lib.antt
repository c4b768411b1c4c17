pub mod StackLaws
pub mod FetchTestLaws

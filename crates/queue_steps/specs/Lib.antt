pub mod QueueLaws
pub mod FetchTestLaws

pub mod Table
pub mod QueueTable

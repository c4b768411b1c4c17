pub mod QueueRow
pub mod QueueRepresents

pub mod SlotJoined

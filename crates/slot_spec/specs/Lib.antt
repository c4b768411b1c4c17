pub mod LittleEndian
pub mod Layout
pub mod Slot
pub mod Tree
pub mod Row
pub mod Examples

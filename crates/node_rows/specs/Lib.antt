pub mod Row
pub mod RowLaws
pub mod Heights
pub mod Held
pub mod HeldLaws
pub mod Examples

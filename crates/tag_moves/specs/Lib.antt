pub mod Moved
pub mod MoveLaws

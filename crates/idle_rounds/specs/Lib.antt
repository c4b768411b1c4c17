pub mod Idle
pub mod IdleLaws

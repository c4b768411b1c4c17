pub mod Settle
pub mod SettleLaws

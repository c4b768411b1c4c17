pub mod FitState
pub mod FitStores
pub mod Tickets

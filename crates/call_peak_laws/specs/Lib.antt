pub mod Earlier
pub mod Listed
pub mod CallRounds
pub mod Theorems

pub mod MapRepresents
pub mod Represented
pub mod Links
pub mod Theorems

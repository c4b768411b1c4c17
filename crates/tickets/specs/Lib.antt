pub mod Asked
pub mod AskedLaws

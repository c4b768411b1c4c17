pub mod FitLaws
pub mod OpeningLaws
pub mod FetchingLaws

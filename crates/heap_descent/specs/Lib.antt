pub mod NodeLaws
pub mod Way
pub mod WayLaws
pub mod FetchTestLaws

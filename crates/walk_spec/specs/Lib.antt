pub mod Input
pub mod Lines
pub mod PeakLines
pub mod Walk

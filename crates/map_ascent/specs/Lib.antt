pub mod Climb
pub mod ClimbLaws

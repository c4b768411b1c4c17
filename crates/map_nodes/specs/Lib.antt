pub mod Method
pub mod Upward
pub mod Heights
pub mod HeightLaws
pub mod FetchTestLaws

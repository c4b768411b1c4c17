pub mod NumbersLaws
pub mod HeadLaws
pub mod PlaceLaws
pub mod StateLaws
pub mod KeptBytes

pub mod LeastLaws
pub mod ShapeLaws
pub mod GreatestLaws

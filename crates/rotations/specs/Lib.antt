pub mod Raise
pub mod RaiseLaws
pub mod RotationLaws
pub mod LevelLaws

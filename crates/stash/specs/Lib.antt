pub mod Stash
pub mod StashLaws
pub mod LookLaws
pub mod SaveLaws

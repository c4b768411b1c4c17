pub mod OneRound
pub mod ReadyLaws
pub mod HandLaws
pub mod CloseLaws
pub mod IdleLaws
pub mod WantLaws
pub mod TwiceLaws
pub mod AscendLaws

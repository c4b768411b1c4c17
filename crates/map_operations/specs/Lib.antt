pub mod BottomLaws

pub mod Answered
pub mod AnsweredLaws

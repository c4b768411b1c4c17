pub mod Joined
pub mod JoinedLaws
pub mod Undo
pub mod UndoneLaws
pub mod Look
pub mod LookedLaws

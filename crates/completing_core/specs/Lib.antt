pub mod Completing
pub mod CompletingLaws
pub mod CompletedLaws

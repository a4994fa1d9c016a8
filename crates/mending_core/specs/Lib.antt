pub mod ByWords
pub mod Sets
pub mod Mending
pub mod MendingLaws

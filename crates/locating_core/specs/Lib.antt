pub mod Roots
pub mod RootLaws
pub mod Telling

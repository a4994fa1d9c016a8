-- Laws for the code; what a reader must believe stands in crate word_spec.
pub mod Partial
pub mod Checking
pub mod Applying

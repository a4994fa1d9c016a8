pub mod Superframe
pub mod Apart
pub mod Lent

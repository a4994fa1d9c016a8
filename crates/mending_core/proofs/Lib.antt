-- Laws for the code.
pub mod Bytes
pub mod Joined

pub mod Sent
pub mod Line
pub mod LineLaws
pub mod Received
pub mod StreamLaws

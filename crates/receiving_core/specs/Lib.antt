pub mod Receiving
pub mod ReceivingLaws

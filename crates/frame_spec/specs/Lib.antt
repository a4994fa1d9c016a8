-- Definitions; the laws about them stand in proofs/.
pub mod Frames
pub mod Layout
pub mod RunLaws
pub mod Calls

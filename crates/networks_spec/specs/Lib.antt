-- Definitions; the laws about them stand in proofs/.
pub mod Networks
pub mod Circuits

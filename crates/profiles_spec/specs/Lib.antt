-- Definitions; the laws about them stand in proofs/.
pub mod Profiles

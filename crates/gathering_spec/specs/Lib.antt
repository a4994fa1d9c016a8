-- Definitions; the laws about them stand in proofs/.
pub mod Sums
pub mod Dirty
pub mod Collecting
pub mod Gathering

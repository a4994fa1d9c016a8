-- Definitions; the laws about them stand in proofs/.
pub mod Header
pub mod Opening
pub mod Reading
pub mod Writing

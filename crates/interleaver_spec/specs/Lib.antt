-- Definitions; the laws about them stand in proofs/.
pub mod Rows
pub mod SubsetLaws
pub mod Block
pub mod Moves
pub mod Positions
pub mod PositionLaws
pub mod Interleaving
pub mod Calls
pub mod BlockBuffer

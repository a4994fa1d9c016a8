-- Definitions; the laws about them stand in proofs/.
pub mod Levels
pub mod Modulation
pub mod Cells
pub mod Highest
pub mod Calls
pub mod Qam16
pub mod Qam16Inverse
pub mod Qpsk
pub mod QpskLaws
pub mod Qam16Tables
pub mod QpskBytes

-- Definitions; the laws about them stand in proofs/.
pub mod Lists
pub mod ListLaws
pub mod Bits
pub mod Count
pub mod Xor
pub mod Tests
pub mod Least
pub mod LeastLaws
pub mod Parts
pub mod Numbers32
pub mod Filling
pub mod PartCalls
pub mod Seeking

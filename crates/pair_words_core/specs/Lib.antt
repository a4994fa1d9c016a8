pub mod Shifting
pub mod WordBits
pub mod BackHalves
pub mod Halves
pub mod HalvesLaws
pub mod WordBytes
pub mod BitCalls

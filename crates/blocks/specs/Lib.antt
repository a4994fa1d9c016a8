-- Definitions; the laws about them stand in proofs/.
pub mod Block
pub mod BlockLaws
pub mod Moves
pub mod MoveLaws
pub mod Exchanges
pub mod SideBySide
pub mod Laying
pub mod Twos
pub mod LaidBy
pub mod PutLane

-- Definitions; the laws about them stand in proofs/.
pub mod RowWords
pub mod RowWordLaws
pub mod Held
pub mod HeldLaws

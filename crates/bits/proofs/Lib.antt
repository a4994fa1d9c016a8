-- Laws about the definitions of specs/.
pub mod BitLaws
pub mod BufferLaws
pub mod CountLaws
pub mod DigitLaws
pub mod FlipLaws
pub mod Folding
pub mod NumberLaws
pub mod Numbers32Laws
pub mod PartLaws
pub mod TestLaws
pub mod XorLaws
pub mod FromFn
pub mod Mapped

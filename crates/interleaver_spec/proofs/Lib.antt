-- Laws about the definitions of specs/.
pub mod BenchValues
pub mod BlockBufferLaws
pub mod BlockLaws
pub mod CallLaws
pub mod InterleavingLaws
pub mod MoveLaws
pub mod PositionLaws
pub mod ResultLaws
pub mod SubsetLaws

-- Laws about the definitions of specs/.
pub mod CheckSums
pub mod Collecting
pub mod Dirty
pub mod GatheringLaws
pub mod ParityLaws
pub mod SumLaws

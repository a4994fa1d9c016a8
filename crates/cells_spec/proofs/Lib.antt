-- Laws about the definitions of specs/.
pub mod CallLaws
pub mod CellLaws
pub mod FoundLaws
pub mod Highest
pub mod LevelLaws
pub mod ModulationLaws
pub mod Qam16Laws
pub mod QpskLaws
pub mod ResultLaws

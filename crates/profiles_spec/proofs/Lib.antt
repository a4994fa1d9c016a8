-- Laws about the definitions of specs/, and those of cells_spec that need the profiles.
pub mod BenchValues
pub mod ProfileLaws
pub mod Profiles
pub mod Qam16Bytes
pub mod Qam16Tables
pub mod QpskBytes

-- Definitions first; the laws about them stand in the file below.
pub mod Riffles
pub mod RiffleLaws

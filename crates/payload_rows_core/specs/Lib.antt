pub mod PayloadRows
pub mod FourFronts
pub mod PayloadRowLaws

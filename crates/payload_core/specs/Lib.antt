pub mod NumberBits
pub mod RowBytes
pub mod PayloadParts

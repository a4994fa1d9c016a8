-- Definitions; the laws about them stand in proofs/.
pub mod Rows
pub mod RowLaws
pub mod Pairs
pub mod PairLaws
pub mod History
pub mod Front
pub mod Encoding
pub mod EncodingLaws
pub mod Sent
pub mod Receiving
pub mod ReceivingLaws
pub mod Calls
pub mod Promise
pub mod Stream

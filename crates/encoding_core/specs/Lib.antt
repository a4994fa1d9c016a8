pub mod CodedPairs
pub mod CodedPairLaws
pub mod EncodingLaws

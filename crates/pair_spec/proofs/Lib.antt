-- Laws about the definitions of specs/.
pub mod Bench
pub mod CallLaws
pub mod EncodingLaws
pub mod FrontLaws
pub mod HistoryLaws
pub mod PairLaws
pub mod PromiseLaws
pub mod ReceivingLaws
pub mod ResultLaws
pub mod RowLaws
pub mod SentLaws
pub mod StateLaws
pub mod StreamLaws
pub mod StreamRunLaws
pub mod WordLaws

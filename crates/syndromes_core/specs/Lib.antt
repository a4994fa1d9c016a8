pub mod RowChecks
pub mod RowCheckLaws

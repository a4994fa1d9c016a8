-- Laws about the definitions of specs/.
pub mod BenchValues
pub mod CallLaws
pub mod CheckBitLaws
pub mod CheckLaws
pub mod CompletionLaws
pub mod Distance
pub mod Locating
pub mod MarkLaws
pub mod QuotientLaws
pub mod RemainderLaws
pub mod RepairLaws
pub mod RepairTheorems
pub mod ResultLaws
pub mod Search
pub mod SyndromeLaws
pub mod Tight

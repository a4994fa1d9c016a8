-- Laws about the definitions of specs/.
pub mod CircuitLaws
pub mod ColumnLaws
pub mod NetworkLaws

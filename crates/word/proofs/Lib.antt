-- Laws about the definitions of specs/.
pub mod Summing

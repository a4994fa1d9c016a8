-- Laws about the definitions of specs/.
pub mod Field
pub mod PowerLaws

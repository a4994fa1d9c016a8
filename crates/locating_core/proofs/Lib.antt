-- Laws about the definitions of specs/.
pub mod Finding
pub mod RootLaws
pub mod Telling

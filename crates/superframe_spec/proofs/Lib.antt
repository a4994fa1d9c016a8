-- Laws about the definitions of specs/.
pub mod ApartLaws
pub mod BackLaws
pub mod LegalLaws
pub mod LentLaws
pub mod LineLaws
pub mod SuperframeLaws

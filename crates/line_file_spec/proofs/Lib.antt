-- Laws about the definitions of specs/.
pub mod Example
pub mod HeaderLaws
pub mod OpeningLaws
pub mod ReadingLaws
pub mod ResultLaws
pub mod WritingLaws

-- Laws about the definitions of specs/.
pub mod AnswerLaws
pub mod CallLaws
pub mod ResultLaws
pub mod SequenceLaws

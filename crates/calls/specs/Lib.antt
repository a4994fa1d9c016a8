pub mod Answers
pub mod Calls
pub mod Results
pub mod Sequences

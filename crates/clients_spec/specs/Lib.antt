-- Runs: the four lists of calls as a client of the exported functions sees them.
pub mod Runs

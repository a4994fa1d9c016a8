-- RunLaws: the lists of Runs are lists of demand 3. Meeting: what demand 3 says of them.
pub mod Meeting
pub mod RunLaws

-- Theorem is the proof of demand 3, over LineLaws, OutwardLaws and InwardLaws, for every profile; Profiles names it for each.
-- Witness and ErrorWitness show that its premises can be met, by runs there and back and by lines with errors; AnyLine that any bits come
-- off some line; InstanceLaws that the run of Instance is there.
pub mod AnyLine
pub mod BenchLaws
pub mod CallListLaws
pub mod ErrorWitness
pub mod FramedLine
pub mod InstanceLaws
pub mod InwardLaws
pub mod LineLaws
pub mod OutwardLaws
pub mod Profiles
pub mod RunLaws
pub mod Theorem
pub mod Witness
pub mod WrongLaws

-- The statement of demand 3, top down: Demand3 (the claims), Outward and Inward (what goes out and what comes in), Line (the bit that
-- the cells of a line give), Sides. Runs and CallLists are what the runs are made of that show that its premises can be met (calls one
-- after the other, refused ones among them), and what is claimed of them. Instance is one run with nothing left open.
-- BenchValues are those of 01 with a dagger, together.
pub mod Sides
pub mod Line
pub mod Outward
pub mod Inward
pub mod Demand3
pub mod CallLists
pub mod Runs
pub mod Instance
pub mod BenchValues

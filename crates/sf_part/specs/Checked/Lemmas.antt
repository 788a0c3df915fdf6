-- Lemmas on tasks and their frames that the proofs of the crates above cite, too.
-- None is a definition: each states what it says.
pub mod Shapes

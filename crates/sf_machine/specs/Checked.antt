-- What is checked and need not be believed: laws, worked examples, lemmas, and definitions that only proofs use.
-- One module for each.
pub mod Endings
pub mod Missing
pub mod Nexts
pub mod Noting
pub mod Performing
pub mod Plans
pub mod Tasks

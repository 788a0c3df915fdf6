-- What is checked and need not be believed: laws, worked examples, lemmas, and definitions that only proofs use.
-- One module for each.
pub mod Entries
pub mod Lemmas
pub mod Lending
pub mod Moves
pub mod Trees
pub mod Values

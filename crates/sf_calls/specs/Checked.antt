-- What is checked and need not be believed: laws, worked examples, lemmas, and definitions that only proofs use.
-- One module for each.
pub mod Gathers
pub mod Laws
pub mod Lemmas
pub mod Listed
pub mod Summaries
pub mod Tests
pub mod Visited

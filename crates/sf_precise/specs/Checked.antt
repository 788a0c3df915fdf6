-- What is checked and need not be believed: laws, worked examples, lemmas, and definitions that only proofs use.
-- One module for each.
pub mod Laws
pub mod Lemmas
pub mod Outer
pub mod Prepared
pub mod Starts
pub mod Waits
pub mod Work

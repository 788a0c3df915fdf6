-- What is checked and need not be believed: laws, worked examples, lemmas, and definitions that only proofs use.
-- One module for each.
pub mod Looks
pub mod Keeping
pub mod Going
pub mod Taking
pub mod Turns
pub mod Laws

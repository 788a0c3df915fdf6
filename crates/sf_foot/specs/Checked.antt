-- What is checked and need not be believed: laws, worked examples, lemmas, and definitions that only proofs use.
-- One module for each.
pub mod Known
pub mod Laws
pub mod Lemmas
pub mod Places
pub mod StartIsProp
pub mod Taking
pub mod Walks

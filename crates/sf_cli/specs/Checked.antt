-- What is checked and need not be believed: laws, worked examples, lemmas, and definitions that only proofs use.
-- One module for each.
pub mod Fetched
pub mod Kept
pub mod Laws
pub mod Printed
pub mod Stages

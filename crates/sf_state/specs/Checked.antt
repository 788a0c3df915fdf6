-- What is checked and need not be believed: laws, worked examples, lemmas, and definitions that only proofs use.
-- One module for each.
pub mod Beginning
pub mod FirstUnit
pub mod Found
pub mod Keeping
pub mod Laws
pub mod Placing
pub mod Written

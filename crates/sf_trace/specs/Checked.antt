-- What is checked and need not be believed: laws, and lemmas for the crates above.
-- One module for each.
pub mod Laws
pub mod Lemmas

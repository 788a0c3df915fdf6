-- What is checked and need not be believed: laws, worked examples, lemmas, and definitions that only proofs use.
-- One module for each.
pub mod Above
pub mod Empties
pub mod Examples
pub mod Indices
pub mod Insertion
pub mod Items
pub mod Keeping
pub mod Laws
pub mod Lemmas
pub mod Places
pub mod Rows
pub mod Sets
pub mod Stores
pub mod VariablePlaces
pub mod Wanted

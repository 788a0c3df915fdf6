-- What is checked and need not be believed: laws, worked examples, lemmas, and definitions that only proofs use.
-- One module for each.
pub mod Laws
pub mod LawsOfLogs
pub mod Lone
pub mod Searches
pub mod Opened
pub mod Gathered
pub mod Closed

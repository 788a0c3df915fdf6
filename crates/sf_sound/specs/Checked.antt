-- What is checked and need not be believed: laws, worked examples, lemmas, and definitions that only proofs use.
-- One module for each.
pub mod Bodies
pub mod Claims
pub mod Examples
pub mod ExamplesOfInit
pub mod ExamplesOfRaces
pub mod ExamplesOfRegions
pub mod Suits

-- What is checked and need not be believed: laws, worked examples, lemmas, and definitions that only proofs use.
-- One module for each.
pub mod Chooses
pub mod Choosing
pub mod Judging
pub mod Laws
pub mod Seeking
pub mod ShapeLaws

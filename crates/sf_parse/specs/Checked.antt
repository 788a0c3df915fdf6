-- What is checked and need not be believed: laws, worked examples, lemmas, and definitions that only proofs use.
-- One module for each.
pub mod Bodies
pub mod Faults
pub mod Given
pub mod Heads
pub mod Laws
pub mod Machine
pub mod Parser
pub mod Predicates

-- What is checked and need not be believed: laws, worked examples, lemmas, and definitions that only proofs use.
-- One module for each.
pub mod Contract
pub mod Examples
pub mod Fewer
pub mod Invariant
pub mod Law
pub mod LawsOfShares
pub mod Lemmas
pub mod Local
pub mod LocalSafe
pub mod Own
pub mod Owns
pub mod Rooms
pub mod Safe
pub mod Seen
pub mod Unbroken

-- What is checked and need not be believed: definitions that only proofs use.
-- One module for each.
pub mod Kept
pub mod Parting
pub mod Running
pub mod Seats
pub mod Trees

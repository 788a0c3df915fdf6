-- What is checked and need not be believed: definitions that only proofs and the clauses of inner functions use.
-- One module for each.
pub mod Acts
pub mod Calls
pub mod Effects
pub mod Endings
pub mod Entries
pub mod Firsts
pub mod Frames
pub mod Nexts
pub mod Plans
pub mod Resources
pub mod Spots
pub mod Todos

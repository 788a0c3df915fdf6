-- What is checked and need not be believed: when a part is safe, the laws of that, and worked
-- examples. One module for each.
pub mod Accepted
pub mod Examples
pub mod Laws
pub mod LawsOfNeeds
pub mod Safe

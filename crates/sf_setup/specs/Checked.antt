-- What is checked and need not be believed: laws, where a run begins that
-- sets the resources up, what is so then, and of a task that goes on alone. One module for each.
pub mod Fresh
pub mod SetUp
pub mod Told
pub mod Laws
pub mod Alone
pub mod RunLaws
pub mod Turns

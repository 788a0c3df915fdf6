-- What is checked and needn't be believed: what is so of a task that runs, between
-- tries, and while children run.
pub mod Running
pub mod Laws
pub mod Trying
pub mod Parting

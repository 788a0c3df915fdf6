-- What is checked and need not be believed: laws.
pub mod Laws

-- What is checked and need not be believed: laws, worked examples, and definitions that only contracts of parts and
-- proofs use.
pub mod Tests
pub mod Rows
pub mod Ways
pub mod Fits
pub mod Laws
pub mod Examples

-- What is checked of the definitions in Assertions: laws, worked examples, and definitions that only proofs use.
-- One module for each.
pub mod DoubleExamples
pub mod Examples
pub mod InOrderIsProp
pub mod Laws
pub mod Precise
pub mod Shape

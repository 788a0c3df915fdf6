-- What is checked and need not be believed: laws, worked examples, lemmas, and definitions that only proofs use.
-- One module for each.
pub mod Children
pub mod Examples
pub mod ExamplesOfBodies
pub mod ExamplesOfConjuncts
pub mod ExamplesOfDoubles
pub mod ExamplesOfInit
pub mod Few
pub mod Front
pub mod LawsOfCommands
pub mod LawsOfConjuncts
pub mod LawsOfRows
pub mod LawsOfRules
pub mod LawsOfSettings
pub mod LawsOfShape
pub mod LawsOfUpdates
pub mod Lemmas
pub mod RowCases
pub mod Rows
pub mod Terms

pub mod Ordering
pub mod Names
pub mod NamesBehind
pub mod NamesInProofs
pub mod NamesInTrees
pub mod NamesOfPrograms
pub mod NamesOfTokens
pub mod Finishes

pub mod HeadsWithin
pub mod Occurrences
pub mod Inits
pub mod Assertions
pub mod Machine

pub mod Naming
pub mod Walking
pub mod Once
pub mod Spelling
pub mod Back

pub mod ProofText
pub mod Words
pub mod Reading
pub mod Checked

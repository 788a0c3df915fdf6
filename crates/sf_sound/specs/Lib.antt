pub mod Proofs
pub mod Checked

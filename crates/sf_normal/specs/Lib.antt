pub mod Knowledge
pub mod Checked

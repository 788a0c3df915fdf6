pub mod Stopping
pub mod Checked

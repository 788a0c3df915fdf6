pub mod Counting
pub mod Checked

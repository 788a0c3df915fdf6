pub mod Add
pub mod Checked

pub mod Sequential
pub mod Running
pub mod Checked

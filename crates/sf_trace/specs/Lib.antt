pub mod Trace
pub mod Logs
pub mod Checked

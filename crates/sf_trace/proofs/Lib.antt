pub mod Traces
pub mod Meetings
pub mod Weights
pub mod Logs

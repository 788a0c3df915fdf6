pub mod Meeting
pub mod Assuming

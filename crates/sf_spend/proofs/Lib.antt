pub mod Takings
pub mod Counts
pub mod Balance
pub mod Closing

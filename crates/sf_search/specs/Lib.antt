pub mod Strategy
pub mod Judge
pub mod Ends
pub mod Checked

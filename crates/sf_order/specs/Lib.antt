pub mod Nests
pub mod Cycles
pub mod Rank
pub mod Circle
pub mod Answers
pub mod Checked

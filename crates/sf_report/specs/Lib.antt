pub mod Names
pub mod Pieces
pub mod Listed
pub mod Wanted
pub mod Failure
pub mod Checked

pub mod Subtract
pub mod Misfit
pub mod Wants
pub mod Checked

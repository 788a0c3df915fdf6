pub mod Faults
pub mod Earlier
pub mod Checked

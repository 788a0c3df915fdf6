pub mod Going
pub mod Draining
pub mod Checked

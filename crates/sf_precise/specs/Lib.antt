pub mod Taken
pub mod Order
pub mod Annotations
pub mod Checked

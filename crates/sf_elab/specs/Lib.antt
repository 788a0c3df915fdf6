pub mod Names
pub mod Files
pub mod Annotations
pub mod Bodies
pub mod Checked

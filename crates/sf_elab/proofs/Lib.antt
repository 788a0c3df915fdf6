pub mod Names
pub mod Annotations
pub mod Bodies
pub mod Files

pub mod Surface
pub mod View
pub mod Depth

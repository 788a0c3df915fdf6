pub mod Leaf
pub mod Grammar
pub mod Nesting
pub mod Nearest
pub mod Parsing
pub mod Checked

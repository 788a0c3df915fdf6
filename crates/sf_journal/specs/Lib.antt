pub mod Before
pub mod Depends
pub mod Reorders
pub mod Merge
pub mod Checked

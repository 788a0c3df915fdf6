pub mod Footprint
pub mod Found
pub mod Starting
pub mod Variables
pub mod Checked

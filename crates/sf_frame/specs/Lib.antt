pub mod Commons
pub mod Frames
pub mod Refusals
pub mod Spots
pub mod Stamps
pub mod Stores
pub mod Checked

pub mod Crossed
pub mod Moves
pub mod Trying
pub mod Parted

pub mod Grown
pub mod Parted
pub mod Seats

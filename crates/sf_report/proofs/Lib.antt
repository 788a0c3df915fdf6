pub mod Listing
pub mod Inserting
pub mod Orders

pub mod Firsts
pub mod Fits
pub mod Meets
pub mod Exactly
pub mod Answered
mod Views
pub mod NothingEarlier
pub mod Closing

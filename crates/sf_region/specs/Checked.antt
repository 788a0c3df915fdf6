-- What is checked inside of the table alone.
pub mod Laws
pub mod PartLaws
pub mod PutBack
pub mod Seated
pub mod Spent

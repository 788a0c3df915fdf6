pub mod FailedNames
pub mod Reading
pub mod Written

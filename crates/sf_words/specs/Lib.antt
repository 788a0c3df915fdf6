pub mod Words
pub mod WordsOf
pub mod Checked

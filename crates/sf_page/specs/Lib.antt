pub mod Checked
pub mod Escaped
pub mod Fixed
pub mod Markup
pub mod Written

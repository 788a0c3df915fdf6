pub mod Stand
pub mod Refusal
pub mod Proven
pub mod Accepted
pub mod Checked

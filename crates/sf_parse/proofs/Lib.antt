pub mod Grammar
pub mod Machine
pub mod Parser
pub mod Closing

-- Names: what the words of a file say, what its items declare, and what names stand for at a place of it.
-- One module for each.
pub mod Table
pub mod Texts
pub mod InEnv
pub mod Declarations

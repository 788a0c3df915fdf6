-- The program as the definitions see it: its syntax, the views of the code's types, and what each program keeps.
-- One module for each.
pub mod Syntax
pub mod View
pub mod ProgramView
pub mod Places
pub mod Heads
pub mod Sites
pub mod Named
pub mod Links
pub mod Init
pub mod Formed

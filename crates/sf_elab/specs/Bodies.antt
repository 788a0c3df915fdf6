-- Bodies: commands as numbered ones, and the procedures and resources that they are in.
-- One module for each.
pub mod Shape
pub mod Commands
pub mod Procedures

-- Files: what can be wrong with names, and the program or the first fault that a file is.
-- One module for each.
pub mod Faults
pub mod Elaborated

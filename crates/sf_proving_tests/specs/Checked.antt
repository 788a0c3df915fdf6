-- What is checked and need not be believed: worked examples of rows.
-- One module for each.
pub mod Subtraction

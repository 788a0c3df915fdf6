-- Assertions: their meaning, what occurs in them, which are determined, and which are in order.
-- One module for each.
pub mod Scopes
pub mod Sat
pub mod Occurs
pub mod Determined
pub mod InOrder

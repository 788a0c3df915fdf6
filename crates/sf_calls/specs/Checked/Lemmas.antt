-- Lemmas on commands, least sets, breaches and their order, which the proofs of crates above cite. None is a definition.
-- Ordinary: by the cases of commands and assertions, and by search through a program's finite lists.
pub mod Broken
pub mod Decidable
pub mod Decided
pub mod Firsts
pub mod Gathered
pub mod Had
pub mod InFile
pub mod InOrder
pub mod Least
pub mod Listing
pub mod OneBreach
pub mod Paths
pub mod Rows
pub mod Searches
pub mod SetsDecidable
pub mod SetsThere
pub mod Sites
pub mod Within

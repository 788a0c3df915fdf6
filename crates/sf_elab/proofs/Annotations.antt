-- What is known of levels, their existentials, and what assertions elaborate to.
-- One module for each subject.
pub mod AssertionsWithin
pub mod Depths
pub mod Flats
pub mod ExistentialsMade
pub mod Scopes
pub mod ScopesNumbered

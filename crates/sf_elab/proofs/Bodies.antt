-- What is known of what commands and procedures elaborate to.
-- One module for each subject.
pub mod Beginnings
pub mod CommandsWithin
pub mod PrimedValues

-- What is known of whole files: their first faults and their programs.
-- One module for each subject.
pub mod FirstFaults
pub mod FormedPrograms

-- What is known of tables of names and of what they stand for.
-- One module for each subject.
pub mod Among
pub mod DeclaredThings
pub mod Limits
pub mod NamedFields
pub mod NoFaults
pub mod OwnVariables
pub mod TableLaws
pub mod Tables
pub mod UniqueNames
pub mod VariablesWithin

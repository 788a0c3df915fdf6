-- The examples of the machine, by subject.
pub mod Runs
pub mod Races
pub mod Good
pub mod Returns
pub mod Starts
pub mod Numbers
pub mod Commute
pub mod SettingUp
pub mod Whole

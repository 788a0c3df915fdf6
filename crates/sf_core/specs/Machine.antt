-- The machine: its configurations and steps, what is bad, where a procedure starts, what is good, runs whose events
-- take their numbers from supplies, and the parts that make a configuration up.
-- One module for each.
pub mod Config
pub mod Next
pub mod Step
pub mod Reach
pub mod Enabled
pub mod Bad
pub mod HasThroughout
pub mod Start
pub mod Good
pub mod Sound
pub mod Supplies
pub mod Numbered
pub mod SpentSteps
pub mod SpentWaits
pub mod Alone
pub mod Whole

-- That every configuration of a run is in order, by subject.
pub mod Trees
pub mod Shapes
pub mod Regions
pub mod Slots
pub mod Names
pub mod Kept
pub mod Starts
pub mod Met

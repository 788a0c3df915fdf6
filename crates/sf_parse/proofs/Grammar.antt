pub mod Predicates
pub mod Reader
pub mod OneTree
pub mod Depths
pub mod Longer
pub mod CommandsLonger

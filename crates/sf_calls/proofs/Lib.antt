pub mod CallGraph
pub mod Changed
pub mod SetsHad
pub mod Closing

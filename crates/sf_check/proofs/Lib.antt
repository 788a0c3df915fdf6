pub mod Taking
pub mod Finishing
pub mod Refusing
pub mod Walking
pub mod Exactly
pub mod ProvenHad
pub mod Begun
pub mod Closing

pub mod Located
pub mod Normal
pub mod WitnessState
pub mod Wanted
pub mod Satisfied
pub mod WitnessText
pub mod Checked

pub mod Program
pub mod Assertions
pub mod Machine
pub mod Checked

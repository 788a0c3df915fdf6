pub mod Cells
pub mod Faults
pub mod Lending
pub mod Checked

pub mod First
pub mod HeapStore
pub mod Results
pub mod Variables
pub mod Checked

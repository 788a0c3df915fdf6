-- What is checked of the definitions in Machine: laws, worked examples, and what each configuration keeps.
-- One module for each.
pub mod Examples
pub mod InOrder
pub mod Laws
pub mod NumberedExamples
pub mod SettingUp
pub mod WholeExamples

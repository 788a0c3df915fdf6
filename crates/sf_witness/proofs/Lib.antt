mod CellValues
mod Heaps
mod Normality
mod Equations
mod HeapParts
mod Wishes
mod Views
mod Wants
mod Texts
mod Finite
mod Decided
pub mod OneText
pub mod Satisfying

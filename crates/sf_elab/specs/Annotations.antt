-- Annotations: assertions made flat, which existentials a level makes, and assertions as numbered ones.
-- One module for each.
pub mod Flat
pub mod Existentials
pub mod Assertions

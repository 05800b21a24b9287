pub mod Back
pub mod One
pub mod Turns
pub mod Parts
pub mod KeptState

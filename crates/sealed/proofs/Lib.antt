mod Stored
mod Coding
pub mod Theorems

pub mod Theorems
pub mod Groups

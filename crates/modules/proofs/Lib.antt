mod Making
pub mod Theorems

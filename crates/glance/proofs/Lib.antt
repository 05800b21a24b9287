pub mod Theorems
pub mod Glance

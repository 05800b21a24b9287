pub mod Laws
mod Masked
pub mod Theorems

pub mod Sets
pub mod Held
pub mod Lowest
pub mod Zeros

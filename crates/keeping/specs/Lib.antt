pub mod Kept
pub mod Begun

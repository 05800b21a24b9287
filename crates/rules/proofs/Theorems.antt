pub mod Backed
pub mod Copied
pub mod Later

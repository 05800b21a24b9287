pub mod Turns
pub mod Border
pub mod Codes

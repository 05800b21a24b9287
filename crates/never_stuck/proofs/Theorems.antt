pub mod Theorem
pub mod LastOnly
pub mod Example

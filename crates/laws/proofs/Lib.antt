pub mod Over
pub mod Chosen

pub mod Compression
pub mod Steps

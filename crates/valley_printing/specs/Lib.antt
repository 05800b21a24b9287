pub mod Print
pub mod Example

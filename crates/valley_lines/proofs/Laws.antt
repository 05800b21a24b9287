pub mod Short
pub mod Words
pub mod Says

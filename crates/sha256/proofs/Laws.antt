pub mod Chain
pub mod Words
pub mod Shape
pub mod Answers

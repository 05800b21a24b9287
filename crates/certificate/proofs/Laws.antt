pub mod Read
pub mod Calls
pub mod Answers

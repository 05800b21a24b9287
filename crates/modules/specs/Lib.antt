pub mod Counter
pub mod Present
pub mod Returned

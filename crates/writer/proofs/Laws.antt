pub mod Writing
pub mod Bundle

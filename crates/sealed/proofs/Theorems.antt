pub mod Rises
pub mod Ways
pub mod Order

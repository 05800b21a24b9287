pub mod Demand
pub mod Present
pub mod Maths
pub mod FirstVotes

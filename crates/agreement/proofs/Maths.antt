-- The mathematics of demand 3: statements that were coded, states of stations and what they took. No list of words is looked into here.
pub mod Counting
pub mod Log
pub mod Safe
pub mod Settles
pub mod Just
pub mod Took
pub mod Standing
pub mod Entering
pub mod Taking

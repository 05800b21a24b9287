-- The mathematics of demand 3: statements that were coded, states of stations and what they took. No list of words is looked into here.
pub mod Votes

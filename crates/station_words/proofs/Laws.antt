-- The proofs of Theorem.antt, and what the code's proofs cite.
pub mod Back
pub mod Code

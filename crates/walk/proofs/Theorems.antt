pub mod WalkFinds
pub mod WalkParts

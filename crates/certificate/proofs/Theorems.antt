pub mod Exact
pub mod WalkExact

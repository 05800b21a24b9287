pub mod Pieces
pub mod Scans
pub mod Took

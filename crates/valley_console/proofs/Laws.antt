pub mod Bytes
pub mod Scans
pub mod Ends

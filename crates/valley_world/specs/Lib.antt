pub mod Valley
pub mod Group

pub mod Places
pub mod Group
pub mod Maps

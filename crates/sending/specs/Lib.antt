pub mod Sent
pub mod Sends

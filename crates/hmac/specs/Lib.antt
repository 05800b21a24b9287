pub mod Hmac
pub mod Code

pub mod Cutting
pub mod Within

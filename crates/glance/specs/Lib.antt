pub mod Glance

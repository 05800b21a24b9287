pub mod Rules
pub mod Groups
pub mod Test

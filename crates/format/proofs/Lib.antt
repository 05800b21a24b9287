pub mod Laws
pub mod Group
pub mod Form

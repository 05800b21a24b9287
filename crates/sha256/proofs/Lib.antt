mod Chain
mod Out
pub mod Laws

-- What contracts cite of the laws.
pub mod Put

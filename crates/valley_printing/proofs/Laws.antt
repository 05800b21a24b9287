pub mod Width
pub mod Decimal
pub mod Put

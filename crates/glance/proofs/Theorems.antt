pub mod Behind
pub mod Shapes
pub mod Formed

pub mod Whole
pub mod Give
pub mod Chosen
pub mod EndAnswers

pub mod Entered
pub mod JumpAnswers

pub mod MovedAnswers

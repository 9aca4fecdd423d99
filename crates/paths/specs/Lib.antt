pub mod Answers
pub mod Descent

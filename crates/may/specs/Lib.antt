pub mod Words
pub mod Questions
pub mod Answers
pub mod Runs

pub mod Answers
pub mod Finding
pub mod Reasons
pub mod Mends
pub mod code
pub mod Runs

pub mod Naming
pub mod Numbers
pub mod Claims
pub mod Answers
pub mod Worked
pub mod Finishes

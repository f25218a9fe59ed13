mod Vocabulary
pub mod Served
pub mod Known
pub mod Written
pub mod Agreed
pub mod Events
pub mod Runs

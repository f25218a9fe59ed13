pub mod Words
pub mod Phrases
pub mod Numbers
pub mod code

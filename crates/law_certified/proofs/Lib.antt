mod Vocabulary
pub mod Histories

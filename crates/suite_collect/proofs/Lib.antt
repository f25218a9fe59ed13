mod Vocabulary
mod Walks
mod Unseen
pub mod Collected
pub mod Sources
pub mod Shortness
pub mod Fewness
pub mod Staying
pub mod Dues
pub mod Refusals

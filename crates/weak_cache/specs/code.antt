pub mod EntryView
pub mod CacheView
pub mod Beside
pub mod Counts
pub mod Shelved

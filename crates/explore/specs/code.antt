pub mod Reading
pub mod Waiting
pub mod Searches
pub mod Printing

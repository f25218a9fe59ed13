pub mod Histories
pub mod Kept
pub mod Told
pub mod Passes
pub mod Counts
pub mod Closed
pub mod code

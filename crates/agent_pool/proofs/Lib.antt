mod Vocabulary
pub mod Columns
pub mod Lines
pub mod Zips
pub mod Apart
pub mod Begins
pub mod Keeping
pub mod Leaving
pub mod Works
pub mod Seating
pub mod Returning
pub mod Filling
pub mod Seen
pub mod JobsTaken
pub mod Pooling
pub mod Firsts
pub mod Readiness

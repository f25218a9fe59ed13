mod Vocabulary
mod WordByWord
pub mod Places
pub mod Joining
pub mod Taken
pub mod Reading
pub mod LinesPlayed
pub mod Finding
pub mod WayLines
pub mod BegunJobs

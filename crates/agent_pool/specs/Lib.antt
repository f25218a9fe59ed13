pub mod Line
pub mod Transcripts
pub mod Seats
pub mod Pools
pub mod Gathers
pub mod Taken
pub mod Endings
pub mod code

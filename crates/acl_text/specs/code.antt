pub mod Remaining
pub mod Reading
pub mod Tallied
pub mod Keyed
pub mod Finding

mod Vocabulary
pub mod Logs
pub mod Shown
pub mod Knowing
pub mod Writing
pub mod Running
pub mod Effects
mod Had
pub mod Versions

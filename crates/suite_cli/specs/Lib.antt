pub mod Scripts
pub mod Outputs
pub mod Names
pub mod Runs
pub mod code

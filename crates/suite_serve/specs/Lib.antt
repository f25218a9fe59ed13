pub mod Commands
pub mod Scripts
pub mod Readings
pub mod Served
pub mod code

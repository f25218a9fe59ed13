pub mod Operations
pub mod Calls
pub mod Told
pub mod Events
pub mod Histories

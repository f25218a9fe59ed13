pub mod Errors
pub mod Kept
pub mod Playing

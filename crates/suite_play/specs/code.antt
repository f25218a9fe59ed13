pub mod Kept
pub mod Playing

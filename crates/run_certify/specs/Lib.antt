pub mod Merges
pub mod Weaves
pub mod Shown
pub mod Fulls
pub mod Certified
pub mod Deciding
pub mod Promised
pub mod code

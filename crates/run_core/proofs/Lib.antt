mod Vocabulary
pub mod Appending
pub mod Exchanging
pub mod EachAgent
pub mod Numbered
pub mod Moving
pub mod Operating
pub mod Playing
mod Worked
pub mod Wanting
mod Senseless

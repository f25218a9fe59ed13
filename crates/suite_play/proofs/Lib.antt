mod Vocabulary
pub mod Idle
pub mod Ended
pub mod Stepping
pub mod Left
pub mod Lines
pub mod Playing
pub mod KeptLines
pub mod ValidLines
pub mod Promised
pub mod Until
pub mod kept

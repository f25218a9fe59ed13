pub mod Streams
pub mod Whole
pub mod Endings
pub mod Programs

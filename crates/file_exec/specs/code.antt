pub mod KnownFields
pub mod Overlay
pub mod Steps
pub mod Ends
pub mod Ways
pub mod Acting

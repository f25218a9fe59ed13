pub mod Told
pub mod Asking
pub mod Lines
pub mod Histories
pub mod Shown
pub mod code

pub mod Alone
pub mod Endings
pub mod Worked
pub mod Undisturbed

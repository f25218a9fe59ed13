mod Vocabulary
pub mod Opened
pub mod Showed
pub mod Walk
pub mod Lasting
pub mod RepliesAreTheMachines
pub mod Decided
pub mod Events

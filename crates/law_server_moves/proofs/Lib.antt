mod Vocabulary
pub mod Placing
pub mod Holds
pub mod Elsewhere
pub mod Keeping
pub mod Asking
pub mod Ending
pub mod Fit
pub mod Preparing
pub mod Steps
pub mod Opening
pub mod Replies
pub mod Heard
pub mod Late
pub mod Witness

mod Vocabulary
pub mod Steps
pub mod Fields
pub mod Gathering
pub mod LineCounts
pub mod Played
pub mod Playing
pub mod Seen
pub mod ValidVotes
pub mod ValidOperations
pub mod Agreeing

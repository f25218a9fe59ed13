mod Vocabulary
pub mod Accepted
pub mod HeaderLines
pub mod HeaderText
pub mod IsPlay
pub mod Naming
pub mod NewestCopies
pub mod OneMore
pub mod Played
pub mod Promised
pub mod ShowEffects
pub mod TableRows

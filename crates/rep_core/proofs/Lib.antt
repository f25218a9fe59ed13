mod Vocabulary
pub mod Members
pub mod Finding
pub mod Rising
pub mod Ways
pub mod Alone
pub mod Stays
pub mod Least
pub mod LockLookups
pub mod PreparedLocks
pub mod Quiet
pub mod RepliesTell
pub mod Again
pub mod Later
pub mod HeldStill
pub mod Intentions
pub mod Installing
pub mod IntentionLookups
pub mod Effects
pub mod Soundness
pub mod Counting
pub mod Fewness
pub mod Consistent
pub mod Records
pub mod FittingReplies
pub mod Reached
pub mod Validity
mod Example
pub mod Planned
pub mod Kept
pub mod ByAgent
pub mod LeftCopies
mod Searching
mod RisingParts
mod FirstHolders
mod SuiteHolders
mod KeptLocks
mod LockEdits
mod TabledLocks
pub mod Walks
pub mod PackedNames

mod Vocabulary
pub mod PermissionTable
pub mod ListFacts
pub mod TagFacts
pub mod Faults
pub mod Sorting
pub mod Answering
pub mod EntryEquality
pub mod Doubles
pub mod Numbers
pub mod Tallying
pub mod OneOrder
pub mod Reordered
pub mod Inheriting
pub mod ListsEquality
pub mod OneEntry
pub mod Ends

pub mod Padding
pub mod TallyFields
pub mod Sorted
pub mod EntryLaws
pub mod ListsEquality

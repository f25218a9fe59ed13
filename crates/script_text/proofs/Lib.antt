mod Vocabulary
pub mod Cuts
pub mod Values
pub mod PhraseLemmas
pub mod LineCounts
pub mod Fronts

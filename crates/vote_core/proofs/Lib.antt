mod Vocabulary
pub mod ServerSets
pub mod Within
pub mod Doubles
pub mod Faults
pub mod Kept
pub mod Members
pub mod Meet
pub mod QuorumLemmas

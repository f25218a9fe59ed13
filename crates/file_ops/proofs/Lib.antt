mod Vocabulary
pub mod Plain
pub mod PathFacts
pub mod PathTexts
pub mod EditLaws
pub mod LastName
pub mod CapacityLaws
pub mod TakingBack
pub mod LaterRefusals
pub mod Permitting
pub mod Listing
pub mod Copying

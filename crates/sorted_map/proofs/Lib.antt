mod Vocabulary
mod Place
mod Kept
mod InBlocks

mod Vocabulary
mod ByteOrder
mod Lists
mod Fronts
mod Places
pub mod Numbered

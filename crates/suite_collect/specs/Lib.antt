pub mod Telling
pub mod Collecting
pub mod Answering
pub mod Laws
pub mod code

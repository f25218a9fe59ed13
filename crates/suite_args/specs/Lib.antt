pub mod CommandLine
pub mod Answering
pub mod Texts
pub mod code

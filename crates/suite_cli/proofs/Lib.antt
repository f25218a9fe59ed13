pub mod Playing
pub mod KeptJobs
pub mod NameWords
pub mod Ran
pub mod Served
pub mod Asked

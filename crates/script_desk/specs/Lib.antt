pub mod Doing
pub mod Outcomes

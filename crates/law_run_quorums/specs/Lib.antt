pub mod Telling
pub mod Firsts
pub mod Fairness
pub mod Laws

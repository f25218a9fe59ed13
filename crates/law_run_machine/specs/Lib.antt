pub mod Deciding
pub mod Machines
pub mod Sides
pub mod Owed
pub mod Telling
pub mod Laws

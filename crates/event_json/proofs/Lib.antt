mod Parting
pub mod Changing
pub mod Owning

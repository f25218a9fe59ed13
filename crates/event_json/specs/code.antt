pub mod Going
pub mod Owning

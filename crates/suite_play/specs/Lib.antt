pub mod Headers
pub mod Commands
pub mod Texts
pub mod Playing
pub mod Outputs
pub mod Promised
pub mod Laws
pub mod code

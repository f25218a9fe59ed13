pub mod Quorums
pub mod Validity
pub mod Servers
pub mod code

pub mod Premises
pub mod Nothing
pub mod Promises
pub mod Laws
pub mod Worked

pub mod Knowledge
pub mod Laws

pub mod Views
pub mod Preparing
pub mod Moves
pub mod Agents
pub mod Laws
pub mod Licences

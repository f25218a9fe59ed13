pub mod Executed
pub mod Courses
pub mod Agents
pub mod Worlds
pub mod Prints

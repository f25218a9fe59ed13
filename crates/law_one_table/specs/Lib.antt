pub mod Tables
pub mod Effects
pub mod Versions

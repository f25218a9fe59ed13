pub mod Limits
pub mod Names
pub mod Folders
pub mod FolderLaws
pub mod Contents
pub mod Written
pub mod code

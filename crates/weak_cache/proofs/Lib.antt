mod Vocabulary
pub mod Fewer
pub mod Keeping
pub mod Puts
pub mod Found
pub mod LettingGo
pub mod SiteLists
pub mod Beside
pub mod Origins
pub mod Counting
pub mod Shelving
pub mod Oldest
pub mod Answered
pub mod Searched

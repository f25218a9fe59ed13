pub mod Judging
pub mod SettingsView
pub mod ServersCode
pub mod Equality
pub mod SettingsEquality
pub mod Heads
pub mod Records

pub mod Commit
pub mod Jobs
pub mod Messages
pub mod States
pub mod Steps
pub mod Undo
